-- `mend::mend_table` meets its contract: 86 from the first pass, then the second, and 80 where its lines do not fit. Assumes nothing.
use mathlib.Core.Path.{sym, ap, ◌∙◌}
use Rattle.obj.specs.Answers.{meaning}
use Rattle.obj.proofs.Errors.{is_err}
use Rattle.mend.proofs.Stage.{mends_refused, mends_told}
use Rattle.mend.proofs.mend_table.Goals as goal

pub returns-in_err-check_ends-clause-mended : goal.returns-in_err-check_ends-clause-mended
returns-in_err-check_ends-clause-mended c =
    let checked = rw (c.columns.ensures.columns, c.columns.ensures.count) at c.check_ends.ensures in
    rw (is_err _ c.from_residual.ensures.1) (mends_refused _ _ (sym (ap meaning c.in_err-check_ends.was) ∙ checked))

pub returns-clause-mended : goal.returns-clause-mended
returns-clause-mended c =
    let checked = rw (c.columns.ensures.columns, c.columns.ensures.count) at c.check_ends.ensures in
    rw (c.ok_or.ensures.value, c.new.ensures) (mends_told _ _ c.mend_rows.result (sym (ap meaning c.in_ok-check_ends.was) ∙ checked) c.mend_rows.ensures.filled)
