-- Names that are the same, the names of a table by number, and where a name stands among them. Callers use `same_self`, `same_equal`,
-- `length-names`, `name_there`, and `number_there`, `number_below`, `number_none`. Assumes nothing.
use mathlib.Core.Path.{◌≡◌, refl, sym, ap, ap₂, ◌∙◌}
use mathlib.Core.List.{List, [], ◌∷◌}
use mathlib.Core.Bool.{Bool, true, false, ◌&&◌, ◌||◌, and-false}
use Prim.Native.Nat.{ℕ, suc, ◌+◌, ◌-◌, ◌≤◌, ◌<◌}
use native.Mathlib.Nat.{zero-add}
use native.Mathlib.Numerals.{add-one}
use native.Mathlib.Omega.{arith}
use borrow.Author.Tests.{eq-eqb, eqb-true}
use lib.Dec.{eqb}
use lib.ListN.{length, get_or, take, drop, drop_of_length-le}
use lib.Seq.{drop-cons}
use Rattle.lists.specs.Rows.{first_in, some}
use Rattle.std.specs.List.{list_any}
use Rattle.std.specs.Cmp.Lexicographic.{pointwise}
use Rattle.std.proofs.lemmas.Bool.{and_parts}
use Rattle.lists.proofs.Rows.{length-tabulate, get_d_tabulate}
use Rattle.lists.proofs.FirstIn.{first_in_le, first_in_passes, first_in-first, first_in_before, first_in-none}
use Rattle.names.specs.Names.{name_at, names_of, Named, same_name, number_of}

-- ---- the same bytes

-- a name is the same as itself
pub same_self : (x : List ℕ) → same_name x x ≡ true
unfolding same_name
same_self [] = refl
same_self (b ∷ x) = rw (eq-eqb b b refl) (same_self x)

-- names that are the same are equal
pub same_equal : (x y : List ℕ) → same_name x y ≡ true → x ≡ y
unfolding same_name
same_equal [] [] e = refl
same_equal [] (b ∷ y) e = absurd (let z : ◌≡◌ {A = ℕ} 0 1 = cc in omega arith)
same_equal (a ∷ x) [] e = absurd (let z : ◌≡◌ {A = ℕ} 0 1 = cc in omega arith)
same_equal (a ∷ x) (b ∷ y) e =
    let p = and_parts (eqb a b) (same_name x y) e in
    ap₂ (λ (c : ℕ) (l : List ℕ). c ∷ l) (eqb-true a b p.0) (same_equal x y p.1)

-- names that are not the same are not, either way round
pub other_sym : (x y : List ℕ) → same_name x y ≡ false → same_name y x ≡ false
other_sym x y e = go (same_name y x) refl
  where
    go : (t : Bool) → same_name y x ≡ t → t ≡ false
    go true q = absurd (let z : true ≡ false = sym (rw (same_equal y x q) (same_self x)) ∙ e in let z : ◌≡◌ {A = ℕ} 0 1 = cc in omega arith)
    go false q = refl

-- names of other lengths are not the same
pub other_lengths : (x y : List ℕ) → (length x ≡ length y → ⊥) → same_name x y ≡ false
unfolding same_name
other_lengths [] [] h = absurd (h refl)
other_lengths [] (b ∷ y) h = refl
other_lengths (a ∷ x) [] h = refl
other_lengths (a ∷ x) (b ∷ y) h = rw (other_lengths x y (λ e. h (ap suc e))) (and-false (eqb a b))

-- the bytes from i on: byte i, and those from i + 1 on
pub same_turn : (x y : List ℕ) (i : ℕ) → i < length x → i < length y
    → same_name (drop i x) (drop i y) ≡ (eqb (get_or x i 0) (get_or y i 0) && same_name (drop (i + 1) x) (drop (i + 1) y))
unfolding same_name
same_turn x y i h k = rw (add-one, drop-cons x i 0, drop-cons y i 0)

pub same_ended : (x y : List ℕ) (i : ℕ) → length x ≤ i → length y ≤ i → same_name (drop i x) (drop i y) ≡ true
unfolding same_name
same_ended x y i h k = rw (drop_of_length-le x h, drop_of_length-le y k)

-- `==` on slices answers whether they are the same
pub same_pointwise : (x y : List ℕ) → pointwise eqb x y ≡ same_name x y
unfolding same_name
same_pointwise [] [] = refl
same_pointwise [] (b ∷ y) = refl
same_pointwise (a ∷ x) [] = refl
same_pointwise (a ∷ x) (b ∷ y) = ap (λ (t : Bool). eqb a b && t) (same_pointwise x y)

-- .. and `any` whether some element passes
pub any_some : {A : Type 0} (p : A → Bool) (l : List A) → list_any p l ≡ some p l
unfolding some
any_some p [] = refl
any_some p (x ∷ l) = ap (λ (t : Bool). p x || t) (any_some p l)

-- ---- the names of a table

-- so many bytes from a place on, by start and end
pub part_is : (bytes : List ℕ) {a b : ℕ} (place size : ℕ) → a ≡ place → b ≡ size → take (a + b - a) (drop a bytes) ≡ take size (drop place bytes)
part_is bytes place size p q = rw (p, q) (ap (λ (k : ℕ). take k (drop place bytes)) (let e : place + size - place ≡ size = omega arith in e))

module _ (bytes places lengths : List ℕ) (n : ℕ) where
  pub length-names : length (names_of bytes places lengths n) ≡ n
  unfolding names_of
  length-names = length-tabulate (name_at bytes places lengths) 0 n

  pub name_there : (k : ℕ) → k < n → get_or (names_of bytes places lengths n) k [] ≡ name_at bytes places lengths k
  unfolding names_of
  name_there k h = get_d_tabulate (name_at bytes places lengths) 0 n k [] h ∙ ap (name_at bytes places lengths) (zero-add k)

-- each of the names lies within the bytes
module _ {bytes places lengths : List ℕ} {n : ℕ} (named : Named bytes places lengths n) (k : ℕ) (h : k < length (names_of bytes places lengths n)) where
  pub named_number : k < n
  named_number = omega (arith, h, length-names bytes places lengths n)

  pub named_lies : (k < length places) × (k < length lengths) × (get_or places k 0 + get_or lengths k 0 ≤ length bytes)
  named_lies = (omega (arith, named_number, named.placed), omega (arith, named_number, named.measured), named.inside k named_number)

-- ---- the number of a name

module _ (names : List (List ℕ)) (x : List ℕ) where
  pub number_le : number_of names x ≤ length names
  unfolding number_of
  number_le = first_in_le (same_name x) names

  -- a number below the count is that of a name equal to x
  pub number_there : number_of names x < length names → get_or names (number_of names x) [] ≡ x
  unfolding number_of
  number_there h = sym (same_equal x (get_or names (first_in (same_name x) names) []) (first_in_passes (same_name x) names [] h))

  -- a name equal to x: its number is below the count
  pub number_below : (k : ℕ) → k < length names → get_or names k [] ≡ x → number_of names x < length names
  unfolding number_of
  number_below k h e =
      let q : same_name x (get_or names k []) ≡ true = rw e (same_self x) in
      omega (arith, first_in-first (same_name x) names k [] h q)

  -- the count as number: no name is the same
  pub number_none : number_of names x ≡ length names → (k : ℕ) → k < length names → same_name x (get_or names k []) ≡ false
  unfolding number_of
  number_none e k h = first_in_before (same_name x) names k [] (omega arith)

  pub none_number : ((k : ℕ) → k < length names → same_name x (get_or names k []) ≡ false) → number_of names x ≡ length names
  unfolding number_of
  none_number f = first_in-none (same_name x) names [] f
