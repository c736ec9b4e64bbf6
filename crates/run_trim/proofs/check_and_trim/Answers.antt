-- `run_trim::check_and_trim` meets its contract: a refused check is the answer, else the trim's.
-- Assumes nothing.
use Rattle.run_trim.proofs.Laws.{check_refused, check_passed}
use Rattle.run_trim.proofs.check_and_trim.Goals as goal
use Rattle.obj.proofs.Errors.{same_err}

pub returns-in_err-validate-clause-rows : goal.returns-in_err-validate-clause-rows
returns-in_err-validate-clause-rows c =
    rw (same_err c.from_residual.result c.validate.result c.from_residual.ensures.1 c.in_err-validate.was)
    (check_refused _ _ _ _ c.in_err-validate.was (rw (c.columns.ensures.columns, c.columns.ensures.count, c.obj-obj.ensures) at c.validate.ensures))

pub returns-clause-rows : goal.returns-clause-rows
returns-clause-rows c = check_passed _ _ _ c.in_ok-validate.was (rw (c.columns.ensures.columns, c.columns.ensures.count, c.obj-obj.ensures) at c.validate.ensures) (rw (c.obj-obj.ensures, c.image.ensures) at c.trim.ensures.rows)
