-- The rounds of `merge::add_split`: merging the round's split into the rows that are left is merging the new split into those given. A round that goes on removes a
-- row.
use Rattle.std.proofs.Common.{◌≡◌}
use Rattle.tables.specs.Records.{sections_in}
use Rattle.splits.specs.Columns.{Good}
use Rattle.splits.specs.Table.{rows_in, SameLent}
use Rattle.merge.specs.Merge.{given, merge_one}
use Rattle.merge.proofs.add_split.Given as goal

abbrev pub invariant-loop-table : goal.invariant-loop-table
invariant-loop-table l = record {
  lent : SameLent l.initial.table l.table;
  good : Good l.s.alignment;
  merges : merge_one (given (sections_in l.heads.bytes.now l.heads.places.now) l.initial.table.room) (rows_in l.table) l.s
      ≡ merge_one (given (sections_in l.heads.bytes.now l.heads.places.now) l.initial.table.room) (rows_in l.initial.table) l.initial.s;
}

abbrev pub decreases-loop-table : goal.decreases-loop-table
decreases-loop-table l = l.table.count
