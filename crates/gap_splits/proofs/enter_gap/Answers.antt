-- The unit is named, and the split is merged under its number.
use Rattle.splits.specs.Table.{rows_in}
use Rattle.gap_columns.specs.Columns.{gap}
use Rattle.gap_splits.proofs.Entries.{enters_full, enters_merged, good_none}
use Rattle.gap_splits.proofs.enter_gap.Goals as goal

pub add_split-requires : goal.add_split-requires
add_split-requires c = (c.args.tables.now.held, good_none {x = gap c.args.section c.args.start c.args.end} c.gap_split.ensures)

pub returns-in_default-clause-tables : goal.returns-in_default-clause-tables
returns-in_default-clause-tables c =
    let a = c.args in
    rw c.refuse.ensures (enters_full _ _ _ _ _ (rows_in a.table.now) (gap a.section a.start a.end) _ _ c.unit_of.ensures.unit c.in_default.is)

pub returns-clause-tables : goal.returns-clause-tables
returns-clause-tables c =
    let a = c.args in
    enters_merged _ _ _ _ _ (rows_in a.table.now) (gap a.section a.start a.end) _ _ c.in-Some.unit c.unit_of.ensures.unit c.in-Some.is c.gap_split.ensures c.add_split.ensures.rows
