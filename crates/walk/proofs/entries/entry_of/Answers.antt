-- `walk::entries::entry_of` meets its contract: the fields of a common split's symbol, or of a piece's.
use mathlib.Core.Path.{sym, ◌∙◌}
use Rattle.walk.specs.Walk.{entry_of}
use Rattle.walk.proofs.entries.entry_of.Goals as goal

pub returns-then-is_common : goal.returns-then-is_common
unfolding entry_of
returns-then-is_common c = rw (sym c.is_common.ensures ∙ c.if-is_common.true, c.common_address.ensures, c.common_flags.ensures)

pub returns : goal.returns
unfolding entry_of
returns c = rw (sym c.is_common.ensures ∙ c.if-is_common.false)
