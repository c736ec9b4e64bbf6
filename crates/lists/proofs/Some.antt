-- Whether some element passes a test, `some`: what is left from a place on, none left at the end, lists of which none passes; and the first that passes from a place
-- on. Assumes nothing.
use mathlib.Core.Path.{◌≡◌, refl, ap, ap₂, ◌∙◌}
use mathlib.Core.List.{List, [], ◌∷◌, map}
use mathlib.Core.Bool.{Bool, true, false, cond, ◌||◌, ◌&&◌}
use Prim.Native.Nat.{ℕ, zero, suc, ◌+◌, ◌-◌, ◌≤◌, ◌<◌, suc-le-suc}
use native.Mathlib.Nat.{le_of_suc-le-suc, not-suc-le-zero, zero-lt-suc}
use native.Mathlib.Numerals.{add-one}
use native.Mathlib.Omega.{arith}
use lib.ListN.{length, get_or, drop, drop_of_length-le}
use lib.Seq.{drop-cons}
use Rattle.std.proofs.lemmas.Bool.{or_parts}
use Rattle.lists.specs.Rows.{tabulate, keep_if, first_in, some}
use Rattle.lists.specs.Sort.{All, none, each}
use Rattle.lists.proofs.Rows.{rest-cons, rest-none}

module _ {A : Type 0} (p : A → Bool) where
  -- the elements from i on: element i, and those from i + 1 on
  pub some_turn : (l : List A) (i : ℕ) (d : A) → i < length l → some p (drop i l) ≡ (p (get_or l i d) || some p (drop (i + 1) l))
  unfolding some
  some_turn l i d h = rw (add-one, drop-cons l i d h)

  -- none are left at the end
  pub some-none : (l : List A) (i : ℕ) → length l ≤ i → some p (drop i l) ≡ false
  unfolding some
  some-none l i h = rw (drop_of_length-le l h)

  -- none passes: each fails
  pub some_false : (l : List A) (i : ℕ) (d : A) → some p l ≡ false → i < length l → p (get_or l i d) ≡ false
  unfolding some
  some_false [] i d e h = absurd (not-suc-le-zero h)
  some_false (x ∷ l) zero d e h = (or_parts (p x) (some p l) e).0
  some_false (x ∷ l) (suc i) d e h = some_false l i d (or_parts (p x) (some p l) e).1 (le_of_suc-le-suc h)

-- ---- two tests, the elements that pass a test, and those of a map

or_four : (a b c d : Bool) → (a || b) || (c || d) ≡ (a || c) || (b || d)
or_four true b c d = refl
or_four false true true d = refl
or_four false true false d = refl
or_four false false c d = refl

module _ {A : Type 0} where
  pub some_or : (f g : A → Bool) (l : List A) → some (λ (x : A). f x || g x) l ≡ some f l || some g l
  unfolding some
  some_or f g [] = refl
  some_or f g (x ∷ l) = ap (λ (t : Bool). (f x || g x) || t) (some_or f g l) ∙ or_four (f x) (g x) (some f l) (some g l)

  pub some_same : (f g : A → Bool) {l : List A} → All (λ (x : A). f x ≡ g x) l → some f l ≡ some g l
  unfolding some
  some_same f g none = refl
  some_same f g (each e h) = ap₂ (λ (a b : Bool). a || b) e (some_same f g h)

  pub some_keep : (q p : A → Bool) (l : List A) → some p (keep_if q l) ≡ some (λ (x : A). q x && p x) l
  unfolding some keep_if
  some_keep q p [] = refl
  some_keep q p (x ∷ l) = go (q x) (some_keep q p l)
    where
      go : (b : Bool) → some p (keep_if q l) ≡ some (λ (x : A). q x && p x) l → some p (cond b (x ∷ keep_if q l) (keep_if q l)) ≡ (b && p x) || some (λ (x : A). q x && p x) l
      go true ih = ap (λ (t : Bool). p x || t) ih
      go false ih = ih

pub some-map : {A B : Type 0} (p : B → Bool) (f : A → B) (l : List A) → some p (map f l) ≡ some (λ (x : A). p (f x)) l
unfolding some
some-map p f [] = refl
some-map p f (x ∷ l) = ap (λ (t : Bool). p (f x) || t) (some-map p f l)

-- an element passes, so the first that does is there
pub some_first : {A : Type 0} (p : A → Bool) (l : List A) → some p l ≡ true → first_in p l < length l
unfolding some first_in
some_first p [] e = absurd (let z : ◌≡◌ {A = ℕ} 0 1 = cc in omega arith)
some_first {A} p (x ∷ l) e = go (p x) (some_first p l) e
  where
    go : (t : Bool) → (some p l ≡ true → first_in p l < length l) → (t || some p l) ≡ true → cond t zero (suc (first_in p l)) < suc (length l)
    go true ih q = zero-lt-suc (length l)
    go false ih q = suc-le-suc (ih q)

-- ---- whether some row from row i on passes

module _ {A : Type 0} (p : A → Bool) (f : ℕ → A) (n i : ℕ) where
  pub some_here : i < n → p (f i) ≡ true → some p (tabulate f i (n - i)) ≡ true
  unfolding some
  some_here h e = rw (rest-cons f i n h, e)

  pub some_on : i < n → p (f i) ≡ false → some p (tabulate f i (n - i)) ≡ some p (tabulate f (i + 1) (n - (i + 1)))
  unfolding some
  some_on h e = rw (rest-cons f i n h, e)

  pub some-over : n ≤ i → some p (tabulate f i (n - i)) ≡ false
  unfolding some
  some-over h = rw (rest-none f i n h)

-- ---- the first that passes, from place i on

module _ (p : ℕ → Bool) (l : List ℕ) (i : ℕ) where
  pub first_here : i < length l → p (get_or l i 0) ≡ true → first_in p (drop i l) ≡ 0
  unfolding first_in
  first_here h e = rw (drop-cons l i 0 h, e)

  pub first_on : i < length l → p (get_or l i 0) ≡ false → first_in p (drop i l) ≡ suc (first_in p (drop (i + 1) l))
  unfolding first_in
  first_on h e = rw (add-one, drop-cons l i 0 h, e)

  pub first-over : length l ≤ i → first_in p (drop i l) ≡ 0
  unfolding first_in
  first-over h = rw (drop_of_length-le l h)
