-- `common::update_common_splits` meets its contract: nothing changes, the rows are marked, or the refusal is the definition's.
-- Assumes nothing.
use mathlib.Core.Path.{ap, ◌∙◌}
use Rattle.lists.specs.Outcome.{accepted}
use Rattle.obj.proofs.Errors.{is_err}
use Rattle.common.proofs.Laws.{common_nowhere, common_on, common_refused}
use Rattle.common.proofs.update_common_splits.Goals as goal

pub returns-in_err-start-clause-rows : goal.returns-in_err-start-clause-rows
returns-in_err-start-clause-rows c =
    rw (is_err _ c.from_residual.ensures.1) (common_refused _ _ _ _ _ (rw (c.columns.ensures.columns, c.columns.ensures.count) at c.common_start.ensures) c.in_err-start.was)

pub returns-in-Some-clause-rows : goal.returns-in-Some-clause-rows
returns-in-Some-clause-rows c =
    ap accepted c.mark_columns.ensures.rows
    ∙ common_on _ _ _ _ _ (rw (c.columns.ensures.columns, c.columns.ensures.count) at c.common_start.ensures) (rw c.in-Some.is at c.in_ok-start.was)

pub returns-in_default-clause-rows : goal.returns-in_default-clause-rows
returns-in_default-clause-rows c =
    common_nowhere _ _ _ _ _ (rw (c.columns.ensures.columns, c.columns.ensures.count) at c.common_start.ensures) (rw c.in_default.is at c.in_ok-start.was)
