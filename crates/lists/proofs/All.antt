-- What holds of each element of a list, `All`: of a list put together, of a part, and of the list sorted. Assumes nothing.
use mathlib.Core.List.{List, [], ◌∷◌, ◌++◌}
use mathlib.Core.Bool.{Bool, true, false, cond}
use Prim.Native.Nat.{ℕ, zero, suc, ◌<◌}
use native.Mathlib.Nat.{le_of_suc-le-suc, not-suc-le-zero}
use lib.Dec.{leb}
use lib.ListN.{length, get_or, take, drop}
use Rattle.lists.specs.Rows.{keep_if}
use Rattle.lists.specs.Sort.{insert_key, sort_by, All, none, each}

module _ {A : Type 0} {P : A → Type 0} where
  pub all_append : {s t : List A} → All P s → All P t → All P (s ++ t)
  all_append none q = q
  all_append (each h p) q = each h (all_append p q)

  pub all_first : {x : A} {l : List A} → All P (x ∷ l) → P x
  all_first (each h p) = h

  pub all_rest : {x : A} {l : List A} → All P (x ∷ l) → All P l
  all_rest (each h p) = p

  pub all_take : (n : ℕ) {s : List A} → All P s → All P (take n s)
  all_take zero p = none
  all_take (suc n) none = none
  all_take (suc n) (each h p) = each h (all_take n p)

  pub all_drop : (n : ℕ) {s : List A} → All P s → All P (drop n s)
  all_drop zero p = p
  all_drop (suc n) none = none
  all_drop (suc n) (each h p) = all_drop n p

  pub all_at : {s : List A} (i : ℕ) (d : A) → All P s → i < length s → P (get_or s i d)
  all_at i d none h = absurd (not-suc-le-zero h)
  all_at zero d (each q p) h = q
  all_at (suc i) d (each q p) h = all_at i d p (le_of_suc-le-suc h)

  pub all_map : {Q : A → Type 0} (f : (x : A) → P x → Q x) {s : List A} → All P s → All Q s
  all_map f none = none
  all_map f (each h p) = each (f _ h) (all_map f p)

  pub all_keep : (p : A → Bool) {s : List A} → All P s → All P (keep_if p s)
  unfolding keep_if
  all_keep p none = none
  all_keep p (each {x} {l} h q) = go (p x) (all_keep p q)
    where
      go : (t : Bool) → All P (keep_if p l) → All P (cond t (x ∷ keep_if p l) (keep_if p l))
      go true ih = each h ih
      go false ih = ih

  pub all_insert : (k : A → ℕ) (x : A) {s : List A} → P x → All P s → All P (insert_key k x s)
  unfolding insert_key
  all_insert k x h none = each h none
  all_insert k x h (each {x = y} {l} q p) = go (leb (k x) (k y)) (all_insert k x h p)
    where
      go : (t : Bool) → All P (insert_key k x l) → All P (cond t (x ∷ y ∷ l) (y ∷ insert_key k x l))
      go true ih = each h (each q p)
      go false ih = each q ih

  pub all_sort : (k : A → ℕ) {s : List A} → All P s → All P (sort_by k s)
  unfolding sort_by
  all_sort k none = none
  all_sort k (each h p) = all_insert k _ h (all_sort k p)

  -- what holds of every element
  pub all_any : ((x : A) → P x) → (s : List A) → All P s
  all_any f [] = none
  all_any f (x ∷ s) = each (f x) (all_any f s)

  -- two properties at once
  pub all_both : {Q : A → Type 0} {s : List A} → All P s → All Q s → All (λ x. P x × Q x) s
  all_both none none = none
  all_both (each a p) (each b q) = each (a, b) (all_both p q)
