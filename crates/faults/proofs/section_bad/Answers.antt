-- `faults::section_bad` meets its contract: the code joins the definition's tests in its order.
-- Assumes nothing.
use mathlib.Core.Path.{refl}
use Rattle.lists.specs.Rows.{any_of}
use Rattle.faults.specs.Faults.{section_bad}
use Rattle.faults.proofs.section_bad.Goals as goal

pub returns : goal.returns
unfolding section_bad any_of
returns c = rw c.end.ensures
