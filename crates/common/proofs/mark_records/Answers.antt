-- `common::mark_records` meets its contract: the records are the rows, and what is written back is each of them marked.
-- Assumes nothing.
use borrow.Author.Rules.{rules}
use mathlib.Core.Path.{◌∙◌}
use Rattle.lists.proofs.Rows.{unmapped}
use Rattle.common.proofs.Written.{marked-kept, marked_front}
use Rattle.common.proofs.mark_records.Goals as goal

pub put_records-requires : goal.put_records-requires
put_records-requires c =
    let a = c.args in
    let e = c.columns.ensures in
    (c.requires, marked-kept a.from.section a.from.address c.columns.result a.table.now e.columns e.count _ _ (search (rules, unmapped)) c.requires c.records-rows.ensures c.mark_common_splits.ensures)

pub returns-clause-rows : goal.returns-clause-rows
returns-clause-rows c =
    let a = c.args in
    let e = c.columns.ensures in
    c.put_records.ensures.rows
    ∙ marked_front a.from.section a.from.address c.columns.result a.table.now e.columns e.count _ _ (search (rules, unmapped)) c.requires c.records-rows.ensures c.mark_common_splits.ensures
