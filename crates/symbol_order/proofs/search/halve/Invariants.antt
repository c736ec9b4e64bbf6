-- `symbol_order::search::halve`. Invariant: the first place with such a key lies in lo..=hi, if it lies in from..=to.
-- The measure is what lies between them.
use Rattle.std.proofs.Common.{ℕ, ◌≤◌, ◌-◌}
use Rattle.lists.specs.Rows.{first_in}
use Rattle.lists.specs.Sort.{at_least}
use Rattle.symbol_order.specs.Search.{Keyed}
use Rattle.symbol_order.proofs.search.halve.Given as goal

abbrev pub invariant-loop-lo : goal.invariant-loop-lo
invariant-loop-lo g l =
    (l.from ≤ l.lo) × (l.lo ≤ l.hi) × (l.hi ≤ l.to)
    × ((k : ℕ → ℕ) → Keyed (goal.F-post g l.key) k l.s → l.from ≤ first_in (at_least k l.low) l.s → first_in (at_least k l.low) l.s ≤ l.to
    → (l.lo ≤ first_in (at_least k l.low) l.s) × (first_in (at_least k l.low) l.s ≤ l.hi))

abbrev pub decreases-loop-lo : goal.decreases-loop-lo
decreases-loop-lo g l = l.hi - l.lo
