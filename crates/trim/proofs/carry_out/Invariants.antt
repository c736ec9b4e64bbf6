-- `trim::carry_out`: the falls that are left, carried out in the rows as they are, make what all make;
-- only ends change.
use mathlib.Core.Path.{◌≡◌}
use lib.ListN.{take, drop}
use Rattle.splits.specs.Table.{ends_rows, OnlyEnds}
use Rattle.trim.specs.Trim.{carry_from}
use Rattle.trim.proofs.carry_out.Given as goal

abbrev pub invariant-loop-k : goal.invariant-loop-k
invariant-loop-k l =
    (carry_from l.k (drop l.k (take l.initial.table.count l.falls)) (ends_rows l.table)
    ≡ carry_from 0 (take l.initial.table.count l.falls) (ends_rows l.initial.table))
    × OnlyEnds l.initial.table l.table
