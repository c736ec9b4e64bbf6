-- `common::mark_columns`: the rows up to i are marked, and those from i on are as they were.
use Rattle.splits.specs.Table.{OnlyRest}
use Rattle.common.proofs.Marking.{Marking}
use Rattle.common.proofs.mark_columns.Given as goal

abbrev pub invariant-loop-i : goal.invariant-loop-i
invariant-loop-i l =
    Marking l.from.section l.from.address l.initial.table.starts.now l.initial.table.rest.now l.table.rest.now l.i
    × OnlyRest l.initial.table l.table
