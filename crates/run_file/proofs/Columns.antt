-- What the entries that run a file ask of columns of their own: columns of 1,024 rows hold a split table, and columns of 4,096 names of 65,535 bytes those that are
-- added. Assumes nothing.
use mathlib.Core.Path.{◌≡◌}
use mathlib.Core.List.{List}
use Prim.Native.Nat.{ℕ}
use native.Mathlib.Omega.{arith}
use lib.ListN.{length}
use Rattle.gap_splits.specs.Added.{beside, Stand}
use Rattle.gap_splits.proofs.Naming.{stand_none}

pub names_stand : {bytes places lengths : List ℕ} → length bytes ≡ 65535 → length places ≡ 4096 → length lengths ≡ 4096 → Stand (beside bytes places lengths) 0 0 4096 65535
names_stand b p l =
    stand_none _ 4096 65535
    (record { few = omega arith; short = omega arith; long_places = omega (arith, p); long_lengths = omega (arith, l); long_bytes = omega (arith, b) })
