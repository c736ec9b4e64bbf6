-- `splits::set_end` meets its contract: a store in the column of ends changes one row.
-- Assumes nothing.
use Rattle.splits.proofs.Rows.{end_stored}
use borrow.Author.Rules.{rules}
use Rattle.splits.proofs.set_end.Goals as goal

pub returns-clause-rows : goal.returns-clause-rows
returns-clause-rows c =
    let a = c.args in
    let t = a.table.now in
    end_stored t.starts.now t.ends.now t.units.now t.rest.now a.i t.count a.end (search rules)
