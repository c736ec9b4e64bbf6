-- Tables filled from an end: a store just below what is written already, and a table whose every place holds one value. Assumes nothing.
use Prim.Native.Nat.{ℕ, zero, suc, ◌≤◌, ◌<◌}
use mathlib.Core.Path.{◌≡◌, refl, ap, ◌∙◌}
use mathlib.Core.List.{List, [], ◌∷◌, ◌++◌, append-nil}
use native.Mathlib.Omega.{arith}
use native.Mathlib.Nat.{not-suc-le-zero, le_of_suc-le-suc}
use lib.ListN.{length, drop, take, set, replicate, drop_of_length-le}

module _ {ℓ} {A : Type ℓ} where
  -- downward: the store goes just below what is written already
  pub set_below : (l : ℕ) (t r : List A) (x : A) → l < length t → set (take (suc l) t ++ r) l x ≡ take l t ++ x ∷ r
  set_below l [] r x h = absurd (not-suc-le-zero h)
  set_below zero (y ∷ t) r x h = refl
  set_below (suc l) (y ∷ t) r x h = ap (λ (z : List A). y ∷ z) (set_below l t r x (le_of_suc-le-suc h))

  -- upward: the front is filled, and no place is left
  pub filled : (i : ℕ) (a : A) (t table : List A) → i ≤ length t → length t ≤ i → table ≡ replicate i a ++ drop i t → table ≡ replicate (length t) a
  filled i a t table h k e =
      let same : i ≡ length t = omega arith in
      e ∙ rw (drop_of_length-le t k, append-nil, same)
