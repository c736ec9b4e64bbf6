-- `splits::load` meets its contract. Invariant: the first i rows are the splits at the first i places.
-- Assumes nothing.
use mathlib.Core.Path.{◌≡◌}
use Prim.Native.Nat.{ℕ, ◌≤◌, ◌<◌}
use lib.ListN.{length, get_or}
use Rattle.obj.specs.Records.{split_at}
use Rattle.splits.specs.Columns.{row_at}
use Rattle.splits.specs.Table.{columns_in, SameLent}
use Rattle.splits.proofs.load.Given as goal

abbrev pub invariant-loop-i : goal.invariant-loop-i
invariant-loop-i l =
    (l.i ≤ length l.lent.places.now)
    × SameLent l.initial.table l.table
    × ((k : ℕ) → k < l.i → row_at (columns_in l.table) k ≡ split_at l.lent.bytes.now (get_or l.lent.places.now k 0))
