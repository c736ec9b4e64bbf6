-- The loop of `merge::add_splits`: merging the splits from i on into the rows that are left is merging all into those given.
use Rattle.std.proofs.Common.{◌≡◌}
use Rattle.tables.specs.Records.{sections_in, partials_in}
use Rattle.splits.specs.Table.{rows_in, SameLent}
use Rattle.merge.specs.Merge.{given, merge_all}
use Rattle.merge.proofs.Rounds.{partials_from}
use Rattle.merge.proofs.add_splits.Given as goal

abbrev pub invariant-loop-i : goal.invariant-loop-i
invariant-loop-i l = record {
  lent : SameLent l.initial.table l.table;
  merges : merge_all (given (sections_in l.heads.bytes.now l.heads.places.now) l.initial.table.room) (rows_in l.table) (partials_from l.partials.bytes.now l.partials.places.now l.i)
      ≡ merge_all (given (sections_in l.heads.bytes.now l.heads.places.now) l.initial.table.room) (rows_in l.initial.table)
      (partials_in l.partials.bytes.now l.partials.places.now);
}
