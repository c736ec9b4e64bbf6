-- `common::put_records`: the first i rows are the first i records.
use Rattle.splits.specs.Table.{OnlyRest}
use Rattle.common.proofs.Written.{Writing}
use Rattle.common.proofs.put_records.Given as goal

abbrev pub invariant-loop-i : goal.invariant-loop-i
invariant-loop-i l =
    Writing l.initial.table.starts.now l.initial.table.ends.now l.initial.table.units.now l.initial.table.rest.now l.table.rest.now l.records l.i
    × OnlyRest l.initial.table l.table
