-- `split_joins::lies_between` meets its contract: no row before lies after s, and the first one behind does, if there is one.
-- Assumes nothing.
use mathlib.Core.Path.{sym, ◌∙◌}
use native.Mathlib.Omega.{arith}
use Rattle.splits.specs.Columns.{row_of}
use Rattle.split_joins.proofs.lies_between.Goals as goal

pub returns : goal.returns
unfolding row_of
returns c =
    let shown = c.first.ensures.columns in
    let f = rw (shown.starts, shown.ends, shown.rest) at c.first_from-from.ensures.2 in
    λ e. record { before = λ k h. f k (omega arith); behind = λ h. sym c.lies_after.ensures ∙ e }
