-- `entry_mend_splits::checked` meets its contract. Names that are refused are the answer; else the column has their lengths, and the other tables are asked with these.
-- Assumes nothing.
use mathlib.Core.Path.{sym, ap, ◌∙◌}
use Rattle.obj.specs.Answers.{meaning}
use Rattle.obj.proofs.Errors.{same_err}
use Rattle.mend_outputs.proofs.Laws.{gives_stops, gives_goes}
use Rattle.entry_mend_splits.specs.Entry.{mend_splits_of, from_sections, from_splits}
use Rattle.entry_mend_splits.proofs.checked.Goals as goal

pub returns-in_err-take_lengths-clause-gives : goal.returns-in_err-take_lengths-clause-gives
unfolding mend_splits_of
returns-in_err-take_lengths-clause-gives c =
    rw (same_err c.from_residual.result c.take_lengths.result c.from_residual.ensures.1 c.in_err-take_lengths.was)
    (gives_stops _ c.take_lengths.ensures.said (ap meaning c.in_err-take_lengths.was))

pub returns-clause-gives : goal.returns-clause-gives
unfolding mend_splits_of from_sections from_splits
returns-clause-gives c =
    let named = c.take_lengths.ensures in
    let told = ap meaning c.in_ok-take_lengths.was in
    gives_goes (sym named.said ∙ told) (rw (named.sizes told) at c.from_sections.ensures.gives)
