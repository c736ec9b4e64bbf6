-- `common::records`: the first i records are the first i rows.
use mathlib.Core.Path.{◌≡◌}
use lib.ListN.{length, take}
use Rattle.splits.specs.Table.{rows_of}
use Rattle.common.proofs.records.Given as goal

abbrev pub invariant-loop-i : goal.invariant-loop-i
invariant-loop-i l = (length l.table ≡ 1024) × (take l.i l.table ≡ take l.i (rows_of l.splits))
