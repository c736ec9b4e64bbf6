-- `names::fixed::is_vector_table_end` meets its contract: a name that is the same as the text spells it.
-- Assumes nothing.
use mathlib.Core.Path.{◌∙◌}
use Rattle.names.specs.Fixed.{codes, is_vector_table_end}
use Rattle.names.proofs.Spelled.{spelled}
use Rattle.names.proofs.fixed.is_vector_table_end.Goals as goal

pub returns : goal.returns
unfolding codes is_vector_table_end
returns c = c.same.ensures ∙ spelled "gTRKInterruptVectorTableEnd" c.args.name.now
