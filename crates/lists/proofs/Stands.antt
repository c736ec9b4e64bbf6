-- What stands in a list of numbers that was sorted, of which some were kept, or that counts on from a number. Assumes nothing.
use mathlib.Core.Path.{◌≡◌, refl, sym, ap, ◌∙◌}
use mathlib.Core.List.{List, [], ◌∷◌}
use mathlib.Core.Bool.{Bool, true, false, cond, false≢true}
use mathlib.Core.Logic.{◌⊎◌, inl, inr}
use Prim.Native.Nat.{ℕ, zero, suc, ◌+◌, ◌≤◌, ◌<◌}
use native.Mathlib.Omega.{arith}
use lib.Dec.{leb}
use Rattle.std.proofs.lemmas.Bool.{cases_lt}
use Rattle.lists.specs.Rows.{keep_if, tabulate}
use Rattle.lists.specs.Members.{In}
use Rattle.lists.specs.Sort.{insert_key, sort_by}

-- ---- those that pass a test
module _ (p : ℕ → Bool) (v : ℕ) where
  pub in_kept : (s : List ℕ) → In v (keep_if p s) → In v s × (p v ≡ true)
  unfolding keep_if
  in_kept [] i = absurd i
  in_kept (x ∷ s) i = go (p x) refl i (in_kept s)
    where
      go : (t : Bool) → p x ≡ t → In v (cond t (x ∷ keep_if p s) (keep_if p s)) → (In v (keep_if p s) → In v s × (p v ≡ true)) → In v (x ∷ s) × (p v ≡ true)
      go true e (inl q) later = (inl q, ap p q ∙ e)
      go true e (inr j) later = let r = later j in (inr r.0, r.1)
      go false e j later = let r = later j in (inr r.0, r.1)

  pub kept_in : (s : List ℕ) → In v s → p v ≡ true → In v (keep_if p s)
  unfolding keep_if
  kept_in [] i e = absurd i
  kept_in (x ∷ s) i e = go (p x) refl i (kept_in s)
    where
      go : (t : Bool) → p x ≡ t → In v (x ∷ s) → (In v s → p v ≡ true → In v (keep_if p s)) → In v (cond t (x ∷ keep_if p s) (keep_if p s))
      go true h (inl q) later = inl q
      go true h (inr j) later = inr (later j e)
      go false h (inl q) later = absurd (false≢true (sym h ∙ ap p (sym q) ∙ e))
      go false h (inr j) later = later j e

-- ---- those of a sorted list
module _ (k : ℕ → ℕ) (v : ℕ) where
  in_inserted : (x : ℕ) (s : List ℕ) → In v (insert_key k x s) → In v (x ∷ s)
  unfolding insert_key
  in_inserted x [] i = i
  in_inserted x (y ∷ s) i = go (leb (k x) (k y)) i (in_inserted x s)
    where
      go : (t : Bool) → In v (cond t (x ∷ y ∷ s) (y ∷ insert_key k x s)) → (In v (insert_key k x s) → In v (x ∷ s)) → In v (x ∷ y ∷ s)
      go true j later = j
      go false (inl q) later = inr (inl q)
      go false (inr j) later = past (later j)
        where
          past : In v (x ∷ s) → In v (x ∷ y ∷ s)
          past (inl q) = inl q
          past (inr m) = inr (inr m)

  inserted_in : (x : ℕ) (s : List ℕ) → In v (x ∷ s) → In v (insert_key k x s)
  unfolding insert_key
  inserted_in x [] i = i
  inserted_in x (y ∷ s) i = go (leb (k x) (k y)) i (inserted_in x s)
    where
      go : (t : Bool) → In v (x ∷ y ∷ s) → (In v (x ∷ s) → In v (insert_key k x s)) → In v (cond t (x ∷ y ∷ s) (y ∷ insert_key k x s))
      go true j later = j
      go false (inl q) later = inr (later (inl q))
      go false (inr (inl q)) later = inl q
      go false (inr (inr j)) later = inr (later (inr j))

  pub in_sorted : (s : List ℕ) → In v (sort_by k s) → In v s
  unfolding sort_by
  in_sorted [] i = i
  in_sorted (x ∷ s) i = go (in_inserted x (sort_by k s) i) (in_sorted s)
    where
      go : In v (x ∷ sort_by k s) → (In v (sort_by k s) → In v s) → In v (x ∷ s)
      go (inl q) later = inl q
      go (inr j) later = inr (later j)

  pub sorted_in : (s : List ℕ) → In v s → In v (sort_by k s)
  unfolding sort_by
  sorted_in [] i = i
  sorted_in (x ∷ s) (inl q) = inserted_in x (sort_by k s) (inl q)
  sorted_in (x ∷ s) (inr j) = inserted_in x (sort_by k s) (inr (sorted_in s j))

-- ---- those that count on from a number
module _ (v : ℕ) where
  pub in_numbers : (from n : ℕ) → In v (tabulate (λ x. x) from n) → v < from + n
  unfolding tabulate
  in_numbers from zero i = absurd i
  in_numbers from (suc n) (inl q) = omega arith
  in_numbers from (suc n) (inr j) = omega (arith, in_numbers (suc from) n j)

  pub numbers_in : (from n : ℕ) → from ≤ v → v < from + n → In v (tabulate (λ x. x) from n)
  unfolding tabulate
  numbers_in from zero h g = absurd (omega arith)
  numbers_in from (suc n) h g = go (cases_lt from v) (λ q. numbers_in (suc from) n q (omega arith))
    where
      go : (from < v) ⊎ (v ≤ from) → (from < v → In v (tabulate (λ x. x) (suc from) n)) → In v (from ∷ tabulate (λ x. x) (suc from) n)
      go (inl q) later = inr (later q)
      go (inr q) later = inl (omega arith)
