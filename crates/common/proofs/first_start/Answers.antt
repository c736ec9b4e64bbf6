-- `common::first_start` meets its contract: the start of the first common row, if there is one. Assumes nothing.
use Rattle.splits.specs.Columns.{row_of}
use Rattle.splits.specs.Table.{columns_of}
use Rattle.common.proofs.Laws.{start_there, start_past}
use native.Mathlib.Omega.{arith}
use borrow.Author.Rules.{rules}
use Rattle.common.proofs.first_start.Goals as goal

pub returns-in_err-i : goal.returns-in_err-i
returns-in_err-i c =
    let a = c.args in
    rw c.from_residual.ensures
    (start_past a.section (columns_of a.splits.now) a.splits.now.count c.first_common.result c.first_common.ensures c.in_err-i.was)

pub returns : goal.returns
unfolding row_of
returns c =
    let a = c.args in
    start_there a.section (columns_of a.splits.now) a.splits.now.count c.first_common.result c.first_common.ensures c.in_ok-i.i c.in_ok-i.was

pub offset_bounds-splits-i : goal.offset_bounds-splits-i
offset_bounds-splits-i c = let h = (c.first_common.ensures.there c.in_ok-i.i c.in_ok-i.was).0 in search rules

pub bounds-splits-i : goal.bounds-splits-i
bounds-splits-i c = let h = (c.first_common.ensures.there c.in_ok-i.i c.in_ok-i.was).0 in omega arith
