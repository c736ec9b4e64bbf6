-- `splits::first_by_blocks` meets its contract. Invariant: whole blocks are left, and no number of those before passes.
-- Assumes nothing.
use Rattle.std.proofs.Common.{◌≡◌, ℕ, ◌+◌, ◌-◌, ◌%◌, ◌≤◌, ◌<◌, Bool, false}
use Rattle.splits.proofs.search.first_by_blocks.Given as goal

abbrev pub invariant-loop-i : goal.invariant-loop-i
invariant-loop-i g l =
    (l.at ≤ l.i)
    × (l.i ≤ l.whole)
    × ((l.whole - l.i) % 32 ≡ 0)
    × ((p : ℕ → Bool)
    → ((k : ℕ) (r : _) → k < l.count → goal.P-post g l.passes k r → r ≡ p k)
    → ((i : ℕ) → i + 32 ≤ l.count → goal.H-post g l.may_hold i false → (k : ℕ) → i ≤ k → k < i + 32 → p k ≡ false)
    → (k : ℕ) → l.at ≤ k → k < l.i → p k ≡ false)

abbrev pub decreases-loop-i : goal.decreases-loop-i
decreases-loop-i g l = l.whole - l.i
