-- `faults::unit_bad` meets its contract: the code joins the definition's tests in its order.
-- Assumes nothing.
use mathlib.Core.Path.{refl}
use Rattle.lists.specs.Rows.{any_of}
use Rattle.faults.specs.Faults.{unit_bad}
use Rattle.faults.proofs.unit_bad.Goals as goal

pub returns : goal.returns
unfolding unit_bad any_of
returns c = refl
