-- `split_joins::join_and_push` meets its contract: where s may take the place of the rows in its range, those behind go down to the place after it.
-- Assumes nothing.
use mathlib.Core.Path.{◌∙◌}
use Prim.Native.Nat.{◌+◌, zero-le}
use native.Mathlib.Omega.{arith}
use Rattle.splits.specs.Table.{columns_in}
use Rattle.split_joins.specs.Joins.{TakesPlace}
use Rattle.split_joins.proofs.Joined.{at_once}
use Rattle.split_joins.proofs.join_and_push.Goals as goal
use Rattle.split_joins.proofs.join_and_push.Goals.{After-shift_rows_down}

-- what the readers say of the columns that the table shows, they say of the table
takes : (c : After-shift_rows_down) → let a = c.args in
    TakesPlace a.s (columns_in a.table.now) a.table.now.count c.in-Some.first c.next_outside-stop.result
takes c =
    let e = c.columns-splits.ensures.columns in
    rw (e.starts, e.ends, e.units, e.rest, e.count) at (c.takes_place.ensures c.if-not-takes_place.false)

pub returns-clause-made : goal.returns-clause-made
returns-clause-made c h =
    let take = takes (goal.at.returns-clause-made c).After-shift_rows_down in
    let a = c.args in
    let s = a.s in
    let t = a.table.now in
    let e = c.columns-splits.ensures.columns in
    let r = c.of-range.ensures in
    let low = rw (e.starts, e.ends, e.units, e.rest, e.count, r.section, r.from, r.to) at c.in-Some.ensures in
    let mid = rw (e.starts, e.ends, e.units, e.rest, e.count, r.section, r.from, r.to) at c.next_outside-stop.ensures in
    let k = c.in-Some.first in
    let put = c.put_row.ensures in
    at_once s (columns_in t) (columns_in c.put_row.new.self) t.count k c.next_outside-stop.result mid.1
    (λ j h. low.none j zero-le h)
    mid.2
    take
    (λ j h. put.others j (λ w. omega (arith, h, w)) ∙ c.shift_rows_down.ensures.rows.below j (omega (arith, h)))
    put.row
    (λ j h. put.others (k + 1 + j) (λ w. omega (arith, w)) ∙ c.shift_rows_down.ensures.rows.moved j h)
