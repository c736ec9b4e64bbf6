-- The rows of a table that pass a test, `keep_if`, in place: the first k are kept already, and those from i on are left. Over functions from
-- places to rows, so that a table's columns do not matter. Assumes nothing.
use mathlib.Core.Path.{◌≡◌, refl, sym, ap, ◌∙◌}
use mathlib.Core.List.{List, [], ◌∷◌, ◌++◌, map, append_assoc}
use mathlib.Core.Bool.{Bool, true, false, cond, not, ◌||◌}
use Prim.Native.Nat.{ℕ, suc, ◌+◌, ◌-◌, ◌≤◌, ◌<◌, zero-le, suc-le-suc}
use native.Mathlib.Omega.{arith}
use lib.ListN.{length}
use Rattle.lists.specs.Rows.{tabulate, keep_if, some}
use Rattle.lists.proofs.Rows.{rest-cons, rest-none, tabulate_more}
use Rattle.lists.proofs.Parts.{tabulate_same}

module _ {A : Type 0} (p : A → Bool) (f : ℕ → A) (n : ℕ) where
  -- what is left from row i on: it passes, or it does not, or there is none
  pub filter_hit : (i : ℕ) → i < n → p (f i) ≡ true → keep_if p (tabulate f i (n - i)) ≡ f i ∷ keep_if p (tabulate f (i + 1) (n - (i + 1)))
  unfolding keep_if
  filter_hit i h e = rw (rest-cons f i n h, e)

  pub filter_miss : (i : ℕ) → i < n → p (f i) ≡ false → keep_if p (tabulate f i (n - i)) ≡ keep_if p (tabulate f (i + 1) (n - (i + 1)))
  unfolding keep_if
  filter_miss i h e = rw (rest-cons f i n h, e)

  pub filter_none : (i : ℕ) → n ≤ i → keep_if p (tabulate f i (n - i)) ≡ []
  unfolding keep_if
  filter_none i h = rw (rest-none f i n h)

  -- row i passes, and is stored behind the k kept ones
  pub filter-kept : (g : ℕ → A) (k i : ℕ) → k ≤ i → i < n → p (f i) ≡ true → g k ≡ f i → ((j : ℕ) → (j ≡ k → ⊥) → g j ≡ f j)
      → tabulate g 0 (k + 1) ++ keep_if p (tabulate g (i + 1) (n - (i + 1))) ≡ tabulate f 0 k ++ keep_if p (tabulate f i (n - i))
  filter-kept g k i h l e here other =
      ap (λ (t : List A). t ++ keep_if p (tabulate g (i + 1) (n - (i + 1)))) (tabulate_more g k)
      ∙ append_assoc (tabulate g 0 k) (g k ∷ []) (keep_if p (tabulate g (i + 1) (n - (i + 1))))
      ∙ (λ d. tabulate_same g f 0 k (λ j m q. other j (λ z. omega arith)) d
      ++ (here d ∷ keep_if p (tabulate_same g f (i + 1) (n - (i + 1)) (λ j m q. other j (λ z. omega arith)) d)))
      ∙ ap (λ (t : List A). tabulate f 0 k ++ t) (sym (filter_hit i l e))

  -- row i does not pass
  pub filter_passed : (k i : ℕ) → i < n → p (f i) ≡ false
      → tabulate f 0 k ++ keep_if p (tabulate f (i + 1) (n - (i + 1))) ≡ tabulate f 0 k ++ keep_if p (tabulate f i (n - i))
  filter_passed k i l e = ap (λ (t : List A). tabulate f 0 k ++ t) (sym (filter_miss i l e))

-- a change that the test does not see may come before the filter or after it
pub keep_if-map : {A : Type 0} (p : A → Bool) (h : A → A) → ((x : A) → p (h x) ≡ p x) → (l : List A) → keep_if p (map h l) ≡ map h (keep_if p l)
unfolding keep_if
keep_if-map p h e [] = refl
keep_if-map {A} p h e (x ∷ l) =
    ap (λ (b : Bool). cond b (h x ∷ keep_if p (map h l)) (keep_if p (map h l))) (e x) ∙ go (p x) (keep_if-map p h e l)
  where
    go : (b : Bool) → keep_if p (map h l) ≡ map h (keep_if p l) → cond b (h x ∷ keep_if p (map h l)) (keep_if p (map h l)) ≡ map h (cond b (x ∷ keep_if p l) (keep_if p l))
    go true q = ap (λ (t : List A). h x ∷ t) q
    go false q = q

module _ {A : Type 0} (p : A → Bool) where
  -- no more are left without those that pass
  pub length_without : (l : List A) → length (keep_if (λ x. not (p x)) l) ≤ length l
  unfolding keep_if
  length_without [] = zero-le
  length_without (x ∷ l) = go (p x) (length_without l)
    where
      go : (b : Bool) → length (keep_if (λ x. not (p x)) l) ≤ length l
          → length (cond (not b) (x ∷ keep_if (λ x. not (p x)) l) (keep_if (λ x. not (p x)) l)) ≤ suc (length l)
      go true q = omega arith
      go false q = suc-le-suc q

  -- .. and fewer, where some pass
  pub fewer_without : (l : List A) → some p l ≡ true → length (keep_if (λ x. not (p x)) l) < length l
  unfolding keep_if some
  fewer_without [] e = absurd (let z : ◌≡◌ {A = ℕ} 0 1 = cc in omega arith)
  fewer_without (x ∷ l) e = go (p x) (fewer_without l) e
    where
      go : (b : Bool) → (some p l ≡ true → length (keep_if (λ x. not (p x)) l) < length l) → (b || some p l) ≡ true
          → length (cond (not b) (x ∷ keep_if (λ x. not (p x)) l) (keep_if (λ x. not (p x)) l)) < suc (length l)
      go true q h = suc-le-suc (length_without l)
      go false q h = suc-le-suc (q h)
