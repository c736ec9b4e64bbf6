-- Clearing a table from a place on, `clear_from`. Assumes nothing.
use mathlib.Core.Path.{◌≡◌, refl, ap, ◌∙◌, sym}
use mathlib.Core.List.{List, [], ◌∷◌, ◌++◌}
use Prim.Native.Nat.{ℕ, zero, suc, ◌-◌, ◌≤◌}
use native.Mathlib.Nat.{sub-zero, suc-sub-suc, le_of_suc-le-suc, not-suc-le-zero}
use native.Mathlib.Omega.{arith}
use lib.ListN.{length, take, replicate}
use Rattle.lists.specs.Rows.{clear_from}
use Rattle.lists.specs.Tables.{laid}

-- ---- clearing the rest of an output
module _ {A : Type 0} (z : A) where
  pub clear_done : (k : ℕ) (l : List A) → length l ≤ k → clear_from z k l ≡ l
  unfolding clear_from
  clear_done k [] h = refl
  clear_done zero (x ∷ l) h = absurd (not-suc-le-zero h)
  clear_done (suc k) (x ∷ l) h = ap (λ (t : List A). x ∷ t) (clear_done k l (le_of_suc-le-suc h))

  pub clear_all : (l : List A) → clear_from z 0 l ≡ replicate (length l) z
  unfolding clear_from
  clear_all [] = refl
  clear_all (x ∷ l) = ap (λ (t : List A). z ∷ t) (clear_all l)

  pub clear_is : (k : ℕ) (l : List A) → clear_from z k l ≡ take k l ++ replicate (length l - k) z
  unfolding clear_from
  clear_is zero l = clear_all l ∙ rw sub-zero
  clear_is (suc k) [] = let e : 0 - suc k ≡ 0 = omega arith in rw e
  clear_is (suc k) (x ∷ l) = ap (λ (t : List A). x ∷ t) (clear_is k l ∙ rw suc-sub-suc)

-- nothing stands in a cleared output
pub cleared : (out : List ℕ) → clear_from 0 0 out ≡ laid (length out) []
cleared out = clear_all 0 out ∙ ap (λ (n : ℕ). replicate n 0) (sym (sub-zero (length out)))
