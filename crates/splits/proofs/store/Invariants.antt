-- `splits::store` meets its contract. Invariant: writing the rows that are left from here on writes them all.
-- Assumes nothing.
use mathlib.Core.Path.{◌≡◌}
use Prim.Native.Nat.{◌-◌, ◌*◌, ◌≤◌}
use lib.ListN.{length}
use lib.Seq.{sets}
use Rattle.lists.specs.Rows.{tabulate}
use Rattle.splits.specs.Columns.{row_at, rows}
use Rattle.splits.specs.Table.{columns_of}
use Rattle.splits.specs.Bytes.{table_bytes}
use Rattle.obj.specs.Records.{split_width}
use Rattle.splits.proofs.store.Given as goal

abbrev pub invariant-loop-i : goal.invariant-loop-i
invariant-loop-i l =
    (l.i ≤ l.splits.count)
    × (length l.out ≡ length l.initial.out)
    × (sets l.out (split_width * l.i) (table_bytes (tabulate (row_at (columns_of l.splits)) l.i (l.splits.count - l.i))) ≡ sets l.initial.out 0 (table_bytes (rows (columns_of l.splits) l.splits.count)))
