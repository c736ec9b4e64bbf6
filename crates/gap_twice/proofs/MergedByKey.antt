-- Two lists by key made one, `merge_by`: where the second list is cut, what is kept of the whole, and one element more. Elements of one key keep their order, so it is enough
-- that keys never fall. Assumes nothing.
use mathlib.Core.Path.{◌≡◌, refl, sym, ap, ap₂, ◌∙◌}
use mathlib.Core.List.{List, [], ◌∷◌, ◌++◌}
use mathlib.Core.Bool.{Bool, true, false, cond, false≢true}
use mathlib.Core.Logic.{◌⊎◌, inl, inr}
use Prim.Native.Nat.{ℕ, suc, ◌≤◌, ◌<◌, suc-le-suc}
use native.Mathlib.Nat.{zero-lt-suc}
use native.Mathlib.Omega.{arith}
use lib.Dec.{leb}
use lib.ListN.{length, get_or}
use borrow.Author.Tests.{le-leb, lt-leb}
use Rattle.std.proofs.lemmas.Bool.{cases_lt}
use Rattle.lists.specs.Rows.{keep_if}
use Rattle.lists.specs.InsertBy.{insert_by}
use Rattle.lists.specs.Sort.{All, none, each, Sorted, Rising, insert_key, sort_by, merge_by}
use Rattle.lists.proofs.All.{all_append, all_map, all_keep}
use Rattle.lists.proofs.Each.{all_placed}
use Rattle.lists.proofs.Filter.{keep_append}
use Rattle.lists.proofs.Merge.{merge_nil, merge_sort}
use Rattle.lists.proofs.Sort.{keep_sort, insert-first}

-- a property of the elements that pass is one of all, where they pass
pub all_kept : {A : Type 0} {P : A → Type 0} (p : A → Bool) (l : List A) → All P (keep_if p l) → All (λ x. p x ≡ true → P x) l
unfolding keep_if
all_kept p [] h = none
all_kept {P} p (x ∷ l) h = go (p x) refl h (all_kept p l)
  where
    go : (t : Bool) → p x ≡ t → All P (cond t (x ∷ keep_if p l) (keep_if p l)) → (All P (keep_if p l) → All (λ x. p x ≡ true → P x) l) → All (λ x. p x ≡ true → P x) (x ∷ l)
    go true e (each h q) ih = each (λ z. h) (ih q)
    go false e q ih = each (λ z. absurd (false≢true (sym e ∙ z))) (ih q)

module _ {A : Type 0} (k : A → ℕ) where
  -- those not above s come before it, those above it after
  pub merge_cut : (s : A) (l b : List A) {a : List A} → All (λ x. k x ≤ k s) a → All (λ x. k s < k x) b → merge_by k (a ++ b) (s ∷ l) ≡ a ++ (s ∷ merge_by k b l)
  unfolding merge_by
  merge_cut s l [] none none = refl
  merge_cut s l (y ∷ b) none (each h q) = rw (lt-leb (k y) (k s) h)
  merge_cut s l b (each {x} h p) q = rw (le-leb (k x) (k s) h) (ap (λ (t : List A). x ∷ t) (merge_cut s l b p q))

  -- ---- keys that rise

  pub rising_append : {b a : List A} → Rising k a → Rising k b → All (λ x. All (λ y. k x < k y) b) a → Rising k (a ++ b)
  unfolding Rising
  rising_append {a = []} r q h = q
  rising_append {a = x ∷ a} r q (each h p) = (all_append r.0 h, rising_append r.1 q p)

  -- they never fall
  pub rising_sorted : (l : List A) → Rising k l → Sorted k l
  unfolding Rising Sorted
  rising_sorted [] r = tt
  rising_sorted (x ∷ l) r = (all_map (λ y (h : k x < k y). omega arith) r.0, rising_sorted l r.1)

  -- ---- keys that never fall

  pub sorted_keep : (p : A → Bool) (l : List A) → Sorted k l → Sorted k (keep_if p l)
  unfolding Sorted keep_if
  sorted_keep p [] r = tt
  sorted_keep p (x ∷ l) r = go (p x) (sorted_keep p l r.1)
    where
      go : (t : Bool) → Sorted k (keep_if p l) → Sorted k (cond t (x ∷ keep_if p l) (keep_if p l))
      go true ih = (all_keep p r.0, ih)
      go false ih = ih

  -- by places
  pub sorted_placed : (l : List A) (d : A) → ((i j : ℕ) → i < j → j < length l → k (get_or l i d) ≤ k (get_or l j d)) → Sorted k l
  unfolding Sorted
  sorted_placed [] d h = tt
  sorted_placed (x ∷ l) d h = (all_placed l d (λ j q. h 0 (suc j) (zero-lt-suc j) (suc-le-suc q)), sorted_placed l d (λ i j p q. h (suc i) (suc j) (suc-le-suc p) (suc-le-suc q)))

  sort_sorted : (l : List A) → Sorted k l → sort_by k l ≡ l
  unfolding Sorted sort_by
  sort_sorted [] r = refl
  sort_sorted (x ∷ l) r = ap (insert_key k x) (sort_sorted l r.1) ∙ insert-first k x l r.0

  merge_as_sort : (s t : List A) → Sorted k s → Sorted k t → merge_by k s t ≡ sort_by k (s ++ t)
  merge_as_sort s t p q = sym (ap₂ (merge_by k) (sort_sorted s p) (sort_sorted t q)) ∙ merge_sort k s t

  -- what is kept of the whole is what is kept of each
  pub keep_merge : (p : A → Bool) (s t : List A) → Sorted k s → Sorted k t → keep_if p (merge_by k s t) ≡ merge_by k (keep_if p s) (keep_if p t)
  keep_merge p s t a b =
      ap (keep_if p) (merge_as_sort s t a b)
      ∙ keep_sort k p (s ++ t)
      ∙ ap (sort_by k) (keep_append p s t)
      ∙ sym (merge_as_sort (keep_if p s) (keep_if p t) (sorted_keep p s a) (sorted_keep p t b))

  -- ---- one element more

  -- x's key is that of none
  abbrev pub Away : A → List A → Type 0
  Away x = All (λ y. k y ≡ k x → ⊥)

  -- it is inserted in the second list, or stands first in the first
  pub merge_first : (x : A) (s : List A) {l : List A} → All (λ y. k x < k y) s → Away x l → merge_by k s (insert_key k x l) ≡ merge_by k (x ∷ s) l
  unfolding insert_key merge_by
  merge_first x s h none = merge_cut x [] s none h ∙ ap (λ (t : List A). x ∷ t) (merge_nil k s)
  merge_first x s h (each {x = b} {l} q away) = go (cases_lt (k b) (k x)) (merge_first x s h away)
    where
      go : (k b < k x) ⊎ (k x ≤ k b) → merge_by k s (insert_key k x l) ≡ merge_by k (x ∷ s) l → merge_by k s (insert_key k x (b ∷ l)) ≡ merge_by k (x ∷ s) (b ∷ l)
      go (inl d) ih = rw (lt-leb (k x) (k b) d) (merge_cut b (insert_key k x l) s none (all_map (λ y (w : k x < k y). omega arith) h) ∙ ap (λ (t : List A). b ∷ t) ih)
      go (inr d) ih = rw (le-leb (k x) (k b) d) (merge_cut x (b ∷ l) s none h)

  -- insertion before the first that passes a test, where the test compares the keys
  pub insert_by_key : (p : A → Bool) (x : A) {l : List A} → All (λ y. p y ≡ leb (k x) (k y)) l → insert_by p x l ≡ insert_key k x l
  unfolding insert_by insert_key
  insert_by_key p x none = refl
  insert_by_key p x (each {x = y} {l} e h) = ap₂ (λ (t : Bool) (m : List A). cond t (x ∷ y ∷ l) (y ∷ m)) e (insert_by_key p x h)
