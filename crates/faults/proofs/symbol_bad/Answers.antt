-- `faults::symbol_bad` meets its contract: the code joins the definition's tests in its order; the alignment's is what `align::bad` answers.
-- Assumes nothing.
use Rattle.lists.specs.Rows.{any_of}
use Rattle.faults.specs.Faults.{symbol_bad}
use Rattle.faults.proofs.symbol_bad.Goals as goal

pub returns : goal.returns
unfolding symbol_bad any_of
returns c = rw (c.bad.ensures, c.end.ensures, c.end-2.ensures, c.from.ensures)
