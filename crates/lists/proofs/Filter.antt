-- The elements that pass a test, `keep_if`, of whole lists: two tests, lists put together, all or none that pass, and rows made of the
-- elements. (A loop that writes the elements that pass: proofs/Keep.antt.) Assumes nothing.
use mathlib.Core.Path.{◌≡◌, refl, ap, ap₂}
use mathlib.Core.List.{List, [], ◌∷◌, ◌++◌, map}
use mathlib.Core.Bool.{Bool, true, false, cond, not, ◌&&◌, ◌||◌}
use Prim.Native.Nat.{suc}
use native.Mathlib.Omega.{arith}
use lib.Dec.{eqb}
use lib.ListN.{length}
use borrow.Author.Tests.{ne_eqb}
use Rattle.lists.specs.Rows.{keep_if, some}
use Rattle.lists.specs.Sort.{All, none, each}

module _ {A : Type 0} where
  pub keep_same : (p q : A → Bool) (s : List A) → All (λ x. p x ≡ q x) s → keep_if p s ≡ keep_if q s
  unfolding keep_if
  keep_same p q [] h = refl
  keep_same p q (x ∷ s) (each e h) = ap₂ (λ (t : Bool) (l : List A). cond t (x ∷ l) l) e (keep_same p q s h)

  pub keep_keep : (p q : A → Bool) (s : List A) → keep_if p (keep_if q s) ≡ keep_if (λ x. q x && p x) s
  unfolding keep_if
  keep_keep p q [] = refl
  keep_keep p q (x ∷ s) = go (q x) (keep_keep p q s)
    where
      go : (t : Bool) → keep_if p (keep_if q s) ≡ keep_if (λ y. q y && p y) s → keep_if p (cond t (x ∷ keep_if q s) (keep_if q s)) ≡ cond (t && p x) (x ∷ keep_if (λ y. q y && p y) s) (keep_if (λ y. q y && p y) s)
      go true ih = ap (λ (l : List A). cond (p x) (x ∷ l) l) ih
      go false ih = ih

  pub keep_append : (p : A → Bool) (s t : List A) → keep_if p (s ++ t) ≡ keep_if p s ++ keep_if p t
  unfolding keep_if
  keep_append p [] t = refl
  keep_append p (x ∷ s) t = go (p x) (keep_append p s t)
    where
      go : (b : Bool) → keep_if p (s ++ t) ≡ keep_if p s ++ keep_if p t → cond b (x ∷ keep_if p (s ++ t)) (keep_if p (s ++ t)) ≡ cond b (x ∷ keep_if p s) (keep_if p s) ++ keep_if p t
      go true ih = ap (λ (l : List A). x ∷ l) ih
      go false ih = ih

  pub keep_all : (p : A → Bool) (s : List A) → All (λ x. p x ≡ true) s → keep_if p s ≡ s
  unfolding keep_if
  keep_all p [] h = refl
  keep_all p (x ∷ s) (each e h) = rw e (ap (λ (l : List A). x ∷ l) (keep_all p s h))

  pub keep_passes : (p : A → Bool) (s : List A) → All (λ x. p x ≡ true) (keep_if p s)
  unfolding keep_if
  keep_passes p [] = none
  keep_passes p (x ∷ s) = go (p x) refl (keep_passes p s)
    where
      go : (t : Bool) → p x ≡ t → All (λ y. p y ≡ true) (keep_if p s) → All (λ y. p y ≡ true) (cond t (x ∷ keep_if p s) (keep_if p s))
      go true e ih = each e ih
      go false e ih = ih

  pub keep_nothing : (p : A → Bool) (s : List A) → All (λ x. p x ≡ false) s → keep_if p s ≡ []
  unfolding keep_if
  keep_nothing p [] h = refl
  keep_nothing p (x ∷ s) (each e h) = rw e (keep_nothing p s h)

  -- some element passes: something is kept
  pub keep_some : (p : A → Bool) (s : List A) → not (eqb (length (keep_if p s)) 0) ≡ some p s
  unfolding keep_if some
  keep_some p [] = refl
  keep_some p (x ∷ s) = go (p x) (keep_some p s)
    where
      go : (t : Bool) → not (eqb (length (keep_if p s)) 0) ≡ some p s → not (eqb (length (cond t (x ∷ keep_if p s) (keep_if p s))) 0) ≡ (t || some p s)
      go true ih = rw (ne_eqb (suc (length (keep_if p s))) 0 (λ z. omega arith))
      go false ih = ih

module _ {A B : Type 0} (f : A → B) where
  pub map_keep : (p : B → Bool) (s : List A) → map f (keep_if (λ x. p (f x)) s) ≡ keep_if p (map f s)
  unfolding keep_if
  map_keep p [] = refl
  map_keep p (x ∷ s) = go (p (f x)) (map_keep p s)
    where
      go : (t : Bool) → map f (keep_if (λ y. p (f y)) s) ≡ keep_if p (map f s) → map f (cond t (x ∷ keep_if (λ y. p (f y)) s) (keep_if (λ y. p (f y)) s)) ≡ cond t (f x ∷ keep_if p (map f s)) (keep_if p (map f s))
      go true ih = ap (λ (l : List B). f x ∷ l) ih
      go false ih = ih
