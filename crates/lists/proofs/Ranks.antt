-- Where an element that passes a test stands among those that pass, and lists cut in two by a test; `flat_map`: its length and its parts. Assumes nothing.
use mathlib.Core.Path.{◌≡◌, refl, ap, ap₂, ◌∙◌}
use mathlib.Core.List.{List, [], ◌∷◌, ◌++◌, map, flat_map}
use mathlib.Core.Bool.{Bool, true, false, cond, not}
use Prim.Native.Nat.{ℕ, zero, suc, ◌+◌, ◌*◌, ◌≤◌, ◌<◌}
use native.Mathlib.Nat.{le_of_suc-le-suc, not-suc-le-zero}
use native.Mathlib.Omega.{arith}
use lib.ListN.{length, get_or, take, length-append}
use Rattle.lists.specs.Rows.{keep_if}
use Rattle.lists.specs.Sort.{All, none, each}

-- what holds of both arms of a test holds of it
pub both_arms : {A : Type 0} (P : A → Type 0) (t : Bool) {x y : A} → P x → P y → P (cond t x y)
both_arms P true h q = h
both_arms P false h q = q

module _ {A : Type 0} (p : A → Bool) where
  -- an element that passes stands behind those before it that pass
  pub rank_at : (l : List A) (k : ℕ) (d e : A) → k < length l → p (get_or l k d) ≡ true → get_or (keep_if p l) (length (keep_if p (take k l))) e ≡ get_or l k d
  unfolding keep_if
  rank_at [] k d e h q = absurd (not-suc-le-zero h)
  rank_at (x ∷ l) zero d e h q = rw q
  rank_at (x ∷ l) (suc k) d e h q = go (p x) (rank_at l k d e (le_of_suc-le-suc h) q)
    where
      go : (t : Bool) → get_or (keep_if p l) (length (keep_if p (take k l))) e ≡ get_or l k d
          → get_or (cond t (x ∷ keep_if p l) (keep_if p l)) (length (cond t (x ∷ keep_if p (take k l)) (keep_if p (take k l)))) e ≡ get_or l k d
      go true ih = ih
      go false ih = ih

  pub rank_below : (l : List A) (k : ℕ) (d : A) → k < length l → p (get_or l k d) ≡ true → length (keep_if p (take k l)) < length (keep_if p l)
  unfolding keep_if
  rank_below [] k d h q = absurd (not-suc-le-zero h)
  rank_below (x ∷ l) zero d h q = rw q (omega arith)
  rank_below (x ∷ l) (suc k) d h q = go (p x) (rank_below l k d (le_of_suc-le-suc h) q)
    where
      go : (t : Bool) → length (keep_if p (take k l)) < length (keep_if p l)
          → length (cond t (x ∷ keep_if p (take k l)) (keep_if p (take k l))) < length (cond t (x ∷ keep_if p l) (keep_if p l))
      go true ih = omega arith
      go false ih = ih

  -- those that pass and those that do not are all
  pub length_parted : (l : List A) → length (keep_if p l) + length (keep_if (λ x. not (p x)) l) ≡ length l
  unfolding keep_if
  length_parted [] = refl
  length_parted (x ∷ l) = go (p x) (length_parted l)
    where
      go : (t : Bool) → length (keep_if p l) + length (keep_if (λ y. not (p y)) l) ≡ length l
          → length (cond t (x ∷ keep_if p l) (keep_if p l)) + length (cond (not t) (x ∷ keep_if (λ y. not (p y)) l) (keep_if (λ y. not (p y)) l)) ≡ suc (length l)
      go true ih = omega arith
      go false ih = omega arith

  pub length-kept : (l : List A) → length (keep_if p l) ≤ length l
  length-kept l = omega (arith, length_parted l)

-- what is made of the elements of a map
pub flat_map_map : {A B C : Type 0} (f : B → List C) (g : A → B) (l : List A) → flat_map (λ (x : A). f (g x)) l ≡ flat_map f (map g l)
unfolding flat_map
flat_map_map f g [] = refl
flat_map_map {A} {B} {C} f g (x ∷ l) = ap (λ (t : List C). f (g x) ++ t) (flat_map_map f g l)

-- maps that agree on each element
pub map_same : {A B : Type 0} (f g : A → B) (l : List A) → All (λ x. f x ≡ g x) l → map f l ≡ map g l
map_same f g [] h = refl
map_same {A} {B} f g (x ∷ l) (each e h) = ap₂ (λ (y : B) (t : List B). y ∷ t) e (map_same f g l h)

pub all_of_map : {A B : Type 0} {P : B → Type 0} {Q : A → Type 0} (f : A → B) → ((x : A) → Q x → P (f x)) → {l : List A} → All Q l → All P (map f l)
all_of_map f h none = none
all_of_map f h (each {x} q r) = each (h x q) (all_of_map f h r)

-- as many bytes for each element
pub length-flat : {A : Type 0} (f : A → List ℕ) (width : ℕ) (l : List A) → ((x : A) → length (f x) ≡ width) → length (flat_map f l) ≡ width * length l
unfolding flat_map
length-flat f width [] h = omega arith
length-flat f width (x ∷ l) h =
    length-append (f x) (flat_map f l)
    ∙ ap₂ (λ (a b : ℕ). a + b) (h x) (length-flat f width l h)
    ∙ (let e : width + width * length l ≡ width * suc (length l) = omega arith in e)

-- the part of one element is no longer than the whole
pub part_le : {A B : Type 0} (f : A → List B) (l : List A) (k : ℕ) (d : A) → k < length l → length (f (get_or l k d)) ≤ length (flat_map f l)
unfolding flat_map
part_le f [] k d h = absurd (not-suc-le-zero h)
part_le f (x ∷ l) zero d h = omega (arith, length-append (f x) (flat_map f l))
part_le f (x ∷ l) (suc k) d h = omega (arith, length-append (f x) (flat_map f l), part_le f l k d (le_of_suc-le-suc h))

-- what holds of each part's elements holds in each part
pub all_parts : {A B : Type 0} {P : B → Type 0} (f : A → List B) (l : List A) → All P (flat_map f l) → All (λ (x : A). All P (f x)) l
unfolding flat_map
all_parts f [] h = none
all_parts {A} {B} {P} f (x ∷ l) h = each (go (f x) h).0 (all_parts f l (go (f x) h).1)
  where
    go : (s : List B) → All P (s ++ flat_map f l) → All P s × All P (flat_map f l)
    go [] q = (none, q)
    go (y ∷ s) (each e q) = let r = go s q in (each e r.0, r.1)
