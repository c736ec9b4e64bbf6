-- `trim::cut_last` meets its contract: no row of the section, a last one that does not end above, or one that is cut.
use mathlib.Core.Path.{◌∙◌}
use Rattle.splits.specs.Columns.{row_of, row_at}
use Rattle.splits.specs.Table.{ends_columns}
use Rattle.trim.proofs.Cut.{cut_none, cut_stays, cut_falls}
use Rattle.trim.proofs.cut_last.Goals as goal

pub returns-in_default-clause-rows : goal.returns-in_default-clause-rows
returns-in_default-clause-rows c =
    let a = c.args in
    let e = c.columns.ensures in
    cut_none a.section a.end (row_at (ends_columns a.table.now)) a.table.now.count (rw (e.columns, e.count) at c.in_default.ensures)

pub returns-then-table-k-clause-rows : goal.returns-then-table-k-clause-rows
unfolding row_of
returns-then-table-k-clause-rows c =
    let a = c.args in
    let e = c.columns.ensures in
    let r = rw (e.columns, e.count) at c.in-Some.ensures in
    cut_stays a.section a.end (row_at (ends_columns a.table.now)) a.table.now.count _ r.small r.none_after r.is c.if-table-k.true

pub returns-clause-rows : goal.returns-clause-rows
unfolding row_of
returns-clause-rows c =
    let a = c.args in
    let e = c.columns.ensures in
    let r = rw (e.columns, e.count) at c.in-Some.ensures in
    c.set_end.ensures.rows
    ∙ cut_falls a.section a.end (row_at (ends_columns a.table.now)) a.table.now.count _ r.small r.none_after r.is c.if-table-k.false
