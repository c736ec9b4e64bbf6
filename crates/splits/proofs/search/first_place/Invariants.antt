-- `splits::first_place` meets its contract. Invariant: none of the numbers from `from` up to this one passes.
-- Assumes nothing.
use Rattle.std.proofs.Common.{◌≡◌, ℕ, ◌≤◌, ◌<◌, Bool, false}
use Rattle.splits.proofs.search.first_place.Given as goal

abbrev pub invariant-loop-k : goal.invariant-loop-k
invariant-loop-k g l =
    (l.from ≤ l.k)
    × ((p : ℕ → Bool) → ((k : ℕ) (r : _) → k < l.to → goal.P-post g l.passes k r → r ≡ p k) → (k : ℕ) → l.from ≤ k → k < l.k → p k ≡ false)
