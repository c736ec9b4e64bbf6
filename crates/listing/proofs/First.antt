-- The next record that passes: a record that does not is passed over, one that does is the first of those that are kept. Assumes nothing.
use mathlib.Core.Path.{◌≡◌, refl, sym, ap, subst, ◌∙◌}
use mathlib.Core.Logic.{◌⊎◌, inl, inr}
use mathlib.Core.List.{List, [], ◌∷◌}
use mathlib.Core.Bool.{Bool, true, false}
use Prim.Native.Nat.{ℕ, zero, suc, ◌+◌, ◌-◌, ◌≤◌, ◌<◌}
use native.Mathlib.Nat.{zero-add}
use native.Mathlib.Numerals.{add-one}
use native.Mathlib.Omega.{arith}
use lib.ListN.{length, get_or, drop, drop_of_length-le}
use lib.Seq.{drop-cons}
use Rattle.std.proofs.lemmas.Bool.{cases_lt}
use Rattle.lists.specs.Rows.{tabulate, keep_if}
use Rattle.lists.proofs.Rows.{length-tabulate, get_d_tabulate}

module _ {A : Type 0} (p : A → Bool) (l : List A) (k : ℕ) where
  -- kept: it is the first
  pub keep_first : (d : A) → k < length l → p (get_or l k d) ≡ true → keep_if p (drop k l) ≡ get_or l k d ∷ keep_if p (drop (suc k) l)
  unfolding keep_if
  keep_first d h e = ap (keep_if p) (drop-cons l k d h) ∙ rw e

  -- not kept: those behind it are
  pub keep_later : (d : A) → k < length l → p (get_or l k d) ≡ false → keep_if p (drop k l) ≡ keep_if p (drop (suc k) l)
  unfolding keep_if
  keep_later d h e = ap (keep_if p) (drop-cons l k d h) ∙ rw e

  pub keep_none : length l ≤ k → keep_if p (drop k l) ≡ []
  unfolding keep_if
  keep_none h = ap (keep_if p) (drop_of_length-le l h)

module _ {A : Type 0} (p : A → Bool) (f : ℕ → A) (count at : ℕ) where
  -- so far none passed
  abbrev Kept : ℕ → Type 0
  Kept k = keep_if p (drop k (tabulate f 0 count)) ≡ keep_if p (drop at (tabulate f 0 count))

  pub listed : (k : ℕ) (d : A) → k < count → get_or (tabulate f 0 count) k d ≡ f k
  listed k d h = get_d_tabulate f 0 count k d h ∙ ap f (zero-add k)

  none_turn : (k : ℕ) → k < count → p (f k) ≡ false → Kept k → Kept (k + 1)
  none_turn k h e n =
      rw (add-one)
      (sym (keep_later p (tabulate f 0 count) k (f k) (rw (length-tabulate f 0 count) h) (ap p (listed k (f k) h) ∙ e)) ∙ n)

  passed : (n : ℕ) → at + n ≤ count → ((j : ℕ) → at ≤ j → j < at + n → p (f j) ≡ false) → Kept (at + n)
  passed zero h g = let z : at ≡ at + 0 = omega arith in subst Kept z refl
  passed (suc n) h g =
      let z : at + n + 1 ≡ at + suc n = omega arith in
      subst Kept z (none_turn (at + n) (omega arith) (g (at + n) (omega arith) (omega arith)) (passed n (omega arith) (λ j a b. g j a (omega arith))))

  -- what is kept from `at` on is kept from k on, where none before k passes
  pub kept_from : (k : ℕ) → at ≤ k → k ≤ count → ((j : ℕ) → at ≤ j → j < k → p (f j) ≡ false) → Kept k
  kept_from k a h g =
      let z : at + (k - at) ≡ k = omega arith in
      subst Kept z (passed (k - at) (omega arith) (λ j x y. g j x (omega arith)))

  -- none passes from `at` on
  pub none_left : ((j : ℕ) → at ≤ j → j < count → p (f j) ≡ false) → keep_if p (drop at (tabulate f 0 count)) ≡ []
  none_left g = go (cases_lt at count)
    where
      go : (at < count) ⊎ (count ≤ at) → keep_if p (drop at (tabulate f 0 count)) ≡ []
      go (inl h) =
          sym (kept_from count (omega arith) (omega arith) g)
          ∙ keep_none p (tabulate f 0 count) count (omega (arith, length-tabulate f 0 count))
      go (inr h) = keep_none p (tabulate f 0 count) at (omega (arith, length-tabulate f 0 count, h))

  -- a record that is read through the list
  pub first_there : (k : ℕ) → k < count → p (f k) ≡ true → (d : A) → p (get_or (tabulate f 0 count) k d) ≡ true
  first_there k h e d = ap p (listed k d h) ∙ e
