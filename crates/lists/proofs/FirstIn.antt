-- The place of the first element that passes a test, `first_in`: where it is, and what is known where there is none. Assumes nothing.
use mathlib.Core.Path.{◌≡◌, refl, ap}
use mathlib.Core.List.{List, [], ◌∷◌}
use mathlib.Core.Bool.{Bool, true, false, cond}
use Prim.Native.Nat.{ℕ, zero, suc, ◌≤◌, ◌<◌, zero-le, suc-le-suc}
use native.Mathlib.Nat.{le_of_suc-le-suc, not-suc-le-zero}
use native.Mathlib.Omega.{arith}
use lib.ListN.{length, get_or}
use Rattle.lists.specs.Rows.{first_in}

module _ {A : Type 0} (p : A → Bool) where
  pub first_in_le : (l : List A) → first_in p l ≤ length l
  unfolding first_in
  first_in_le [] = zero-le
  first_in_le (x ∷ l) = go (p x) (first_in_le l)
    where
      go : (t : Bool) → first_in p l ≤ length l → cond t zero (suc (first_in p l)) ≤ suc (length l)
      go true h = zero-le
      go false h = suc-le-suc h

  -- the first element that passes does pass
  pub first_in_passes : (l : List A) (d : A) → first_in p l < length l → p (get_or l (first_in p l) d) ≡ true
  unfolding first_in
  first_in_passes [] d h = absurd (not-suc-le-zero h)
  first_in_passes (x ∷ l) d h = go (p x) refl h (first_in_passes l d)
    where
      go : (t : Bool) → p x ≡ t → cond t zero (suc (first_in p l)) < suc (length l) → (first_in p l < length l → p (get_or l (first_in p l) d) ≡ true)
          → p (get_or (x ∷ l) (cond t zero (suc (first_in p l))) d) ≡ true
      go true e q later = e
      go false e q later = later (le_of_suc-le-suc q)

  -- an element that passes, and none before it: its place
  pub first_in_is : (l : List A) (k : ℕ) (d : A) → k < length l → p (get_or l k d) ≡ true → ((j : ℕ) → j < k → p (get_or l j d) ≡ false) → first_in p l ≡ k
  unfolding first_in
  first_in_is [] k d h e f = absurd (not-suc-le-zero h)
  first_in_is (x ∷ l) zero d h e f = rw e
  first_in_is (x ∷ l) (suc k) d h e f =
      rw (f 0 (suc-le-suc zero-le)) (ap suc (first_in_is l k d (le_of_suc-le-suc h) e (λ j q. f (suc j) (suc-le-suc q))))

  -- none passes: the length
  pub first_in-none : (l : List A) (d : A) → ((j : ℕ) → j < length l → p (get_or l j d) ≡ false) → first_in p l ≡ length l
  unfolding first_in
  first_in-none [] d f = refl
  first_in-none (x ∷ l) d f = rw (f 0 (suc-le-suc zero-le)) (ap suc (first_in-none l d (λ j q. f (suc j) (suc-le-suc q))))

  -- an element that passes stands at the first place or later
  pub first_in-first : (l : List A) (k : ℕ) (d : A) → k < length l → p (get_or l k d) ≡ true → first_in p l ≤ k
  unfolding first_in
  first_in-first [] k d h e = absurd (not-suc-le-zero h)
  first_in-first (x ∷ l) zero d h e = let q : cond (p x) zero (suc (first_in p l)) ≡ 0 = rw e in omega arith
  first_in-first (x ∷ l) (suc k) d h e = go (p x) (first_in-first l k d (le_of_suc-le-suc h) e)
    where
      go : (t : Bool) → first_in p l ≤ k → cond t zero (suc (first_in p l)) ≤ suc k
      go true q = zero-le
      go false q = suc-le-suc q

  -- .. so before the first place none passes
  pub first_in_before : (l : List A) (k : ℕ) (d : A) → k < first_in p l → p (get_or l k d) ≡ false
  first_in_before l k d h = go (p (get_or l k d)) refl
    where
      go : (t : Bool) → p (get_or l k d) ≡ t → t ≡ false
      go true e = absurd (omega (arith, first_in-first l k d (omega (arith, first_in_le l)) e))
      go false e = refl
