-- `faults::reloc_bad` meets its contract: the code joins the definition's tests in its order.
-- Assumes nothing.
use mathlib.Core.Path.{refl}
use Rattle.lists.specs.Rows.{any_of}
use Rattle.faults.specs.Faults.{reloc_bad}
use Rattle.faults.proofs.reloc_bad.Goals as goal

pub returns : goal.returns
unfolding reloc_bad any_of
returns c = rw (c.end.ensures, c.from.ensures)
