-- The sum of the lengths from a place on: one length and the sum of the later ones, and 0 at the end.
-- Assumes nothing.
use Prim.Native.Nat.{ℕ, zero, suc, ◌+◌, ◌≤◌, ◌<◌}
use mathlib.Core.Path.{◌≡◌, refl, ap, ◌∙◌}
use mathlib.Core.List.{List, [], ◌∷◌}
use native.Mathlib.Omega.{arith}
use lib.ListN.{length, get_or, drop}
use Rattle.run_room.specs.Room.{sum}

-- one length more is summed
pub sum_turn : (l : List ℕ) (i : ℕ) → i < length l → sum (drop i l) ≡ get_or l i 0 + sum (drop (i + 1) l)
unfolding sum
sum_turn [] i h = absurd (omega arith)
sum_turn (x ∷ l) zero h = refl
sum_turn (x ∷ l) (suc i) h = sum_turn l i (omega arith) ∙ ap (λ (k : ℕ). get_or l i 0 + sum (drop k (x ∷ l))) (let z : suc (i + 1) ≡ suc i + 1 = omega arith in z)

pub sum-none : (l : List ℕ) (i : ℕ) → length l ≤ i → sum (drop i l) ≡ 0
unfolding sum
sum-none [] zero h = refl
sum-none [] (suc i) h = refl
sum-none (x ∷ l) zero h = absurd (omega arith)
sum-none (x ∷ l) (suc i) h = sum-none l i (omega arith)
