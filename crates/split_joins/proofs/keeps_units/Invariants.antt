-- `split_joins::keeps_units` meets its contract. Invariant: each unit of the rows passed is that of no row around, or is `unit`.
-- Assumes nothing.
use Prim.Native.Nat.{ℕ, ◌+◌, ◌≤◌, ◌<◌}
use lib.ListN.{get_or}
use Rattle.split_joins.specs.Joins.{Alone}
use Rattle.split_joins.proofs.keeps_units.Given as goal

abbrev pub invariant-loop-u : goal.invariant-loop-u
invariant-loop-u l = (k : ℕ) → l.rows.first ≤ k → k < l.rows.first + l.u-index → Alone (λ (j : ℕ). get_or l.rows.splits.units.now j 0) l.rows.splits.count l.rows.first l.rows.stop l.unit (get_or l.rows.splits.units.now k 0)
