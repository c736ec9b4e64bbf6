-- `faults::split_misplaced` meets its contract: the code joins the definition's tests in its order.
-- Assumes nothing.
use mathlib.Core.Path.{refl}
use Rattle.lists.specs.Rows.{any_of}
use Rattle.faults.specs.Faults.{split_misplaced}
use Rattle.faults.proofs.split_misplaced.Goals as goal

pub returns : goal.returns
unfolding split_misplaced any_of
returns c = rw (c.end.ensures, c.from.ensures)
