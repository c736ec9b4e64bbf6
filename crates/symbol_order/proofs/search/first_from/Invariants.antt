-- `symbol_order::search::first_from`. Invariant: the first place with such a key lies in lo..=length, if it is not before from; nor is lo.
-- The measure is what is left of the column.
use Rattle.std.proofs.Common.{ℕ, ◌≤◌, ◌-◌, length}
use Rattle.lists.specs.Rows.{first_in}
use Rattle.lists.specs.Sort.{at_least}
use Rattle.symbol_order.specs.Search.{Keyed}
use Rattle.symbol_order.proofs.search.first_from.Given as goal

abbrev pub invariant-loop-lo : goal.invariant-loop-lo
invariant-loop-lo g l =
    (l.from ≤ l.lo) × (l.lo ≤ length l.s)
    × ((k : ℕ → ℕ) → Keyed (goal.F-post g l.key) k l.s → l.from ≤ first_in (at_least k l.low) l.s → l.lo ≤ first_in (at_least k l.low) l.s)

abbrev pub decreases-loop-lo : goal.decreases-loop-lo
decreases-loop-lo g l = length l.s - l.lo
