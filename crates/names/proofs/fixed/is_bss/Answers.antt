-- `names::fixed::is_bss` meets its contract: a name that is the same as the text spells it.
-- Assumes nothing.
use mathlib.Core.Path.{◌∙◌}
use Rattle.names.specs.Fixed.{codes, is_bss}
use Rattle.names.proofs.Spelled.{spelled}
use Rattle.names.proofs.fixed.is_bss.Goals as goal

pub returns : goal.returns
unfolding codes is_bss
returns c = c.same.ensures ∙ spelled ".bss" c.args.name.now
