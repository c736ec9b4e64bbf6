-- A number that stands twice in a list, `twice`: sorting does not change it, and in a sorted list two that are equal are neighbours. Assumes nothing.
use Rattle.std.specs.List.{list_any, range_with_len}
use Prim.Native.Nat.{ℕ, zero, suc, ◌+◌, ◌-◌, ◌≤◌, ◌<◌}
use mathlib.Core.Path.{◌≡◌, refl, sym, ap, ap₂, subst, ◌∙◌}
use mathlib.Core.List.{List, [], ◌∷◌, map}
use mathlib.Core.Bool.{Bool, true, false, cond, ◌||◌}
use native.Mathlib.Numerals.{add-one}
use native.Mathlib.Omega.{arith}
use borrow.Author.Tests.{eqb-false, ne_eqb}
use lib.Dec.{eqb, leb}
use lib.ListN.{length, get_or, drop, length-drop, length-map}
use lib.Seq.{drop-cons}
use Rattle.std.proofs.lemmas.List.{get_or-map}
use Rattle.lists.specs.Rows.{some}
use Rattle.lists.specs.Sort.{insert_key, sort_by, All, none, each, Sorted}
use Rattle.lists.proofs.All.{all_map}
use Rattle.lists.proofs.Sort.{sorted_sort}
use Rattle.lists.proofs.Tests.{eqb_sym}
use Rattle.order_numbers.specs.Numbers.{twice, next_same}

-- ---- tests
-- (e or a) or (b or t), in another order
swap_or : (e a b t : Bool) → ((e || a) || (b || t)) ≡ ((e || b) || (a || t))
swap_or true a b t = refl
swap_or false true true t = refl
swap_or false true false t = refl
swap_or false false b t = refl

none_or : (a b t : Bool) → (a || (b || t)) ≡ (b || (a || t))
none_or true true t = refl
none_or true false t = refl
none_or false b t = refl

-- ---- sorting
module _ (p : ℕ → Bool) where
  some-insert : (x : ℕ) (l : List ℕ) → some p (insert_key (λ y. y) x l) ≡ (p x || some p l)
  unfolding some insert_key
  some-insert x [] = refl
  some-insert x (y ∷ l) = go (leb x y) (some-insert x l)
    where
      go : (t : Bool) → some p (insert_key (λ z. z) x l) ≡ (p x || some p l)
          → some p (cond t (x ∷ y ∷ l) (y ∷ insert_key (λ z. z) x l)) ≡ (p x || (p y || some p l))
      go true ih = refl
      go false ih = ap (λ (b : Bool). p y || b) ih ∙ none_or (p y) (p x) (some p l)

  some_sort : (l : List ℕ) → some p (sort_by (λ y. y) l) ≡ some p l
  unfolding some sort_by
  some_sort [] = refl
  some_sort (x ∷ l) = some-insert x (sort_by (λ y. y) l) ∙ ap (λ (b : Bool). p x || b) (some_sort l)

twice-insert : (x : ℕ) (l : List ℕ) → twice (insert_key (λ y. y) x l) ≡ (some (λ y. eqb y x) l || twice l)
unfolding twice insert_key some
twice-insert x [] = refl
twice-insert x (y ∷ l) = go (leb x y) (twice-insert x l)
  where
    go : (t : Bool) → twice (insert_key (λ z. z) x l) ≡ (some (λ z. eqb z x) l || twice l)
        → twice (cond t (x ∷ y ∷ l) (y ∷ insert_key (λ z. z) x l)) ≡ ((eqb y x || some (λ z. eqb z x) l) || (some (λ z. eqb z y) l || twice l))
    go true ih = refl
    go false ih =
        ap₂ (λ (a b : Bool). a || b) (some-insert (λ z. eqb z y) x l ∙ ap (λ (e : Bool). e || some (λ z. eqb z y) l) (eqb_sym x y)) ih
        ∙ swap_or (eqb y x) (some (λ z. eqb z y) l) (some (λ z. eqb z x) l) (twice l)

pub twice_sort : (l : List ℕ) → twice (sort_by (λ y. y) l) ≡ twice l
unfolding twice sort_by
twice_sort [] = refl
twice_sort (x ∷ l) =
    twice-insert x (sort_by (λ y. y) l) ∙ ap₂ (λ (a b : Bool). a || b) (some_sort (λ y. eqb y x) l) (twice_sort l)

-- ---- a sorted list
-- all are above x: none is x
none_same : (x : ℕ) {l : List ℕ} → All (λ y. x < y) l → some (λ y. eqb y x) l ≡ false
unfolding some
none_same x none = refl
none_same x (each {x = y} {l} h p) = ap₂ (λ (a b : Bool). a || b) (ne_eqb y x (λ e. omega arith)) (none_same x p)

first_above : {x y : ℕ} {l : List ℕ} → (x ≡ y → ⊥) → All (λ z. x ≤ z) (y ∷ l) → x < y
first_above {x} {y} n (each h p) = omega arith

pub next_twice : (l : List ℕ) → Sorted (λ y. y) l → next_same l ≡ twice l
unfolding next_same twice some Sorted
next_twice [] s = refl
next_twice (x ∷ []) s = refl
next_twice (x ∷ y ∷ l) s = go (eqb x y) refl s.0 (next_twice (y ∷ l) s.1)
  where
    go : (t : Bool) → eqb x y ≡ t → All (λ z. x ≤ z) (y ∷ l) → next_same (y ∷ l) ≡ twice (y ∷ l)
        → (t || next_same (y ∷ l)) ≡ ((eqb y x || some (λ z. eqb z x) l) || twice (y ∷ l))
    go true e a ih = ap (λ (b : Bool). (b || some (λ z. eqb z x) l) || twice (y ∷ l)) (sym (eqb_sym y x ∙ e))
    go false e a ih =
        let above : x < y = first_above (eqb-false x y e) a in
        ih
        ∙ ap₂ (λ (a b : Bool). (a || b) || twice (y ∷ l)) (sym (eqb_sym y x ∙ e))
        (sym (none_same x (all_map (λ z q. omega arith) s.1.0)))

pub sorted_twice : (l : List ℕ) → next_same (sort_by (λ y. y) l) ≡ twice l
sorted_twice l = next_twice (sort_by (λ y. y) l) (sorted_sort (λ y. y) l) ∙ twice_sort l

-- ---- a turn of the loop over neighbours
at_most_one : (l : List ℕ) → length l ≤ 1 → next_same l ≡ false
unfolding next_same
at_most_one [] h = refl
at_most_one (x ∷ []) h = refl
at_most_one (x ∷ y ∷ l) h = absurd (omega arith)

pub next_turn : (l : List ℕ) (i : ℕ) → i + 1 < length l → next_same (drop i l) ≡ (eqb (get_or l i 0) (get_or l (i + 1) 0) || next_same (drop (i + 1) l))
unfolding next_same
next_turn l i h =
    let here : i < length l = omega arith in
    rw (drop-cons l i 0 here, add-one) (rw (drop-cons l (suc i) 0 (omega arith)))

pub next_none : (l : List ℕ) (i : ℕ) → length l ≤ i + 1 → next_same (drop i l) ≡ false
next_none l i h = at_most_one (drop i l) (omega (arith, length-drop i l))

-- the same of neighbours i - 1 and i, by what is asked of them
module _ (f : ℕ → ℕ) (s : List ℕ) where
  turn : (i : ℕ) → i + 1 < length s → next_same (drop i (map f s)) ≡ (eqb (f (get_or s i 0)) (f (get_or s (i + 1) 0)) || next_same (drop (i + 1) (map f s)))
  turn i h =
      next_turn (map f s) i (omega (arith, length-map s f))
      ∙ ap₂ (λ (x y : ℕ). eqb x y || next_same (drop (i + 1) (map f s))) (get_or-map f s i 0 0 (omega arith)) (get_or-map f s (i + 1) 0 0 h)

  pub map_turn : (i : ℕ) → 0 < i → i < length s
      → next_same (drop (i - 1) (map f s)) ≡ (eqb (f (get_or s (i - 1) 0)) (f (get_or s i 0)) || next_same (drop i (map f s)))
  map_turn i low h =
      let z : i - 1 + 1 ≡ i = omega (arith, low) in
      subst (λ (k : ℕ). next_same (drop (i - 1) (map f s)) ≡ (eqb (f (get_or s (i - 1) 0)) (f (get_or s k 0)) || next_same (drop k (map f s)))) z
      (turn (i - 1) (omega (arith, low, h)))

  -- some number is that of the one before it, of those from place i on
  any_from : (i n : ℕ) → 0 < i → i + n ≡ length s
      → list_any (λ j. eqb (f (get_or s (j - 1) 0)) (f (get_or s j 0))) (range_with_len i n) ≡ next_same (drop (i - 1) (map f s))
  any_from i zero low h = sym (next_none (map f s) (i - 1) (omega (arith, length-map s f, low, h)))
  any_from i (suc n) low h =
      let z : i + 1 - 1 ≡ i = omega arith in
      ap (λ (b : Bool). eqb (f (get_or s (i - 1) 0)) (f (get_or s i 0)) || b)
      (any_from (i + 1) n (omega arith) (omega (arith, h)) ∙ ap (λ (k : ℕ). next_same (drop k (map f s))) z)
      ∙ sym (map_turn i low (omega (arith, h)))

  pub any_repeated : (n : ℕ) → length s ≡ n → list_any (λ j. eqb (f (get_or s (j - 1) 0)) (f (get_or s j 0))) (range_with_len 1 (n - 1)) ≡ next_same (map f s)
  any_repeated zero e = sym (next_none (map f s) 0 (omega (arith, length-map s f, e)))
  any_repeated (suc n) e =
      let z : suc n - 1 ≡ n = omega arith in
      ap (λ (k : ℕ). list_any (λ j. eqb (f (get_or s (j - 1) 0)) (f (get_or s j 0))) (range_with_len 1 k)) z
      ∙ any_from 1 n (omega arith) (omega (arith, e))
