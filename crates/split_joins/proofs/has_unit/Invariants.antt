-- `split_joins::has_unit` meets its contract. Invariant: `any`, or the answer of the units that are left, is the answer of all.
-- Assumes nothing.
use mathlib.Core.Path.{◌≡◌}
use mathlib.Core.Bool.{◌||◌}
use Prim.Native.Nat.{ℕ}
use lib.Dec.{eqb}
use lib.ListN.{drop}
use Rattle.lists.specs.Rows.{some}
use Rattle.split_joins.proofs.has_unit.Given as goal

abbrev pub invariant-loop-u : goal.invariant-loop-u
invariant-loop-u l = (l.any || some (λ (u : ℕ). eqb u l.unit) (drop l.u-index l.units)) ≡ some (λ (u : ℕ). eqb u l.unit) l.units
