-- The loop of `gap_splits::enter_gaps`: `Going` of proofs/Turns.antt.
use Rattle.tables.specs.Records.{sections_in}
use Rattle.splits.specs.Table.{rows_in, SameLent as SameTable}
use Rattle.merge.specs.Merge.{given}
use Rattle.gap_splits.specs.Answers.{sections_named, added_in, ceilings_in, SameLent}
use Rattle.names.specs.Listed.{names_in}
use Rattle.gap_splits.proofs.Turns.{Going}
use Rattle.gap_splits.proofs.enter_gaps.Given as goal

abbrev pub invariant-loop-i : goal.invariant-loop-i
invariant-loop-i l =
    Going (sections_named l.heads l.table_names) (given (sections_in l.heads.bytes.now l.heads.places.now) l.initial.table.room) (ceilings_in l.table_names l.initial.added) (names_in l.table_names)
    l.gaps.keys.now l.gaps.ends.now l.gaps.count (rows_in l.initial.table) (added_in l.added) (rows_in l.table) l.i
    × SameLent l.initial.added l.added
    × SameTable l.initial.table l.table
