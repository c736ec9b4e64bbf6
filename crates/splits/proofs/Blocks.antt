-- The search by blocks, for a unit's row and for a row in a range: a block none of whose numbers passes has no such row. Assumes nothing.
use mathlib.Core.Path.{◌≡◌, refl, sym, ap, ap₂, ◌∙◌}
use mathlib.Core.List.{List, [], ◌∷◌}
use mathlib.Core.Bool.{Bool, true, false, ◌&&◌, ◌||◌}
use mathlib.Core.Logic.{◌⊎◌, inl, inr}
use Prim.Native.Nat.{ℕ, zero, suc, ◌+◌, ◌-◌, ◌≤◌, ◌<◌}
use native.Mathlib.Omega.{arith}
use borrow.Author.Tests.{lt-ltb, le-ltb}
use lib.Dec.{eqb, leb, ltb}
use lib.ListN.{length, get_or, take, drop}
use Rattle.std.proofs.lemmas.List.{length-drop, length-take-le}
use Rattle.std.specs.Prelude.{Option, Some, None}
use Rattle.std.proofs.lemmas.Bool.{cases_lt, and_right}
use Rattle.lists.specs.Rows.{tabulate, keep_if, some}
use Rattle.lists.proofs.Rows.{length-tabulate, get_d_tabulate}
use Rattle.lists.proofs.Some.{some_false}
use Rattle.lists.proofs.SomeRows.{some_row, some_ended}
use Rattle.lists.proofs.FilterRows.{filter_hit, filter_miss, filter_none}
use Rattle.splits.specs.Columns.{Columns, row_of, row_at}
use Rattle.splits.specs.Questions.{within, of_unit, FirstNumber, NonePasses, FirstPlace, NextHit}
use Rattle.obj.specs.declared.Split.{Split}

-- how long a part of a list is
pub length_part : {A : Type 0} (l : List A) (at n : ℕ) → at + n ≤ length l → length (take n (drop at l)) ≡ n
length_part l at n h = length-take-le n (drop at l) (omega (arith, length-drop at l))

-- ---- whether one of a block's numbers passes: `seen` is the answer of the first k
module _ {A : Type 0} (p : A → Bool) (f : ℕ → A) (at size : ℕ) where
  abbrev pub Left : Bool → ℕ → Type 0
  Left seen k = (seen || some p (tabulate f (at + k) (size - k))) ≡ some p (tabulate f at size)

  pub left_start : Left false 0
  left_start = ap₂ (λ (x y : ℕ). some p (tabulate f x y)) (let e : at + 0 ≡ at = omega arith in e) (let e : size - 0 ≡ size = omega arith in e)

  pub left_turn : (seen : Bool) (k : ℕ) → k < size → Left seen k → Left (seen || p (f (at + k))) (k + 1)
  left_turn seen k h q =
      ap₂ (λ (x y : ℕ). (seen || p (f (at + k))) || some p (tabulate f x y))
      (let e : at + (k + 1) ≡ at + k + 1 = omega arith in e) (let e : size - (k + 1) ≡ at + size - (at + k + 1) = omega arith in e)
      ∙ some_row p f (at + size) (at + k) seen (omega arith)
      ∙ ap (λ (x : ℕ). seen || some p (tabulate f (at + k) x)) (let e : at + size - (at + k) ≡ size - k = omega arith in e)
      ∙ q

  pub left_end : (seen : Bool) (k : ℕ) → size ≤ k → Left seen k → seen ≡ some p (tabulate f at size)
  left_end seen k h q =
      sym (some_ended p f (at + size) (at + k) seen (omega arith))
      ∙ ap (λ (x : ℕ). seen || some p (tabulate f (at + k) x)) (let e : at + size - (at + k) ≡ size - k = omega arith in e)
      ∙ q

-- none of the block's numbers passes
pub none_of : (p : ℕ → Bool) (f : ℕ → ℕ) (i size : ℕ) → some p (tabulate f i size) ≡ false → (k : ℕ) → i ≤ k → k < i + size → p (f k) ≡ false
none_of p f i size e k h l =
    let z : i + (k - i) ≡ k = omega arith in
    ap p (ap f (sym z) ∙ sym (get_d_tabulate f i size (k - i) 0 (omega arith)))
    ∙ some_false p (tabulate f i size) (k - i) 0 e (rw (length-tabulate f i size) (omega arith))

-- ---- places that do not pass

-- what holds of the places from `at` up to i, and of those from i up to j
pub each_on : (P : ℕ → Type 0) (at i j : ℕ) → ((k : ℕ) → at ≤ k → k < i → P k) → ((k : ℕ) → i ≤ k → k < j → P k) → (k : ℕ) → at ≤ k → k < j → P k
each_on P at i j low high k h l = go (cases_lt k i)
  where
    go : (k < i) ⊎ (i ≤ k) → P k
    go (inl m) = low k h m
    go (inr m) = high k m l

pub each_more : (P : ℕ → Type 0) (at i : ℕ) → ((k : ℕ) → at ≤ k → k < i → P k) → P i → (k : ℕ) → at ≤ k → k < i + 1 → P k
each_more P at i low here = each_on P at i (i + 1) low (λ k h l. let q : i ≡ k = omega arith in rw q at here)

-- none passes from `at` up to i, so the search may begin there
pub first_behind : (p : ℕ → Bool) (at i n : ℕ) (r : Option ℕ) → at ≤ i → ((k : ℕ) → at ≤ k → k < i → p k ≡ false) → FirstNumber p i n r → FirstNumber p at n r
first_behind p at i n None h low none = each_on (λ k. p k ≡ false) at i n low none
first_behind p at i n (Some j) h low s =
    record { past = omega (arith, s.past); small = s.small; none = each_on (λ k. p k ≡ false) at i j low s.none; passes = s.passes }

-- ---- a unit's rows

module _ {A : Type 0} (p : A → Bool) (f : ℕ → A) (n : ℕ) where
  -- the elements that do not pass may be left out
  pub misses : (d i : ℕ) → i + d ≤ n → ((k : ℕ) → i ≤ k → k < i + d → p (f k) ≡ false) → keep_if p (tabulate f i (n - i)) ≡ keep_if p (tabulate f (i + d) (n - (i + d)))
  misses zero i h none = ap (λ (x : ℕ). keep_if p (tabulate f x (n - x))) (let e : i ≡ i + 0 = omega arith in e)
  misses (suc d) i h none =
      filter_miss p f n i (omega arith) (none i (omega arith) (omega arith))
      ∙ misses d (i + 1) (omega arith) (λ k q l. none k (omega arith) (omega arith))
      ∙ ap (λ (x : ℕ). keep_if p (tabulate f x (n - x))) (let e : i + 1 + d ≡ i + suc d = omega arith in e)

  -- those from `at` on that pass: there are none, or element i is the first
  pub none_kept : (at : ℕ) → at ≤ n → ((k : ℕ) → at ≤ k → k < n → p (f k) ≡ false) → keep_if p (tabulate f at (n - at)) ≡ []
  none_kept at h none =
      let e : at + (n - at) ≡ n = omega arith in
      misses (n - at) at (omega arith) (λ k q l. none k q (omega arith)) ∙ filter_none p f n (at + (n - at)) (omega arith)

  pub first_kept : (at i : ℕ) → at ≤ i → i < n → p (f i) ≡ true → ((k : ℕ) → at ≤ k → k < i → p (f k) ≡ false)
      → keep_if p (tabulate f at (n - at)) ≡ f i ∷ keep_if p (tabulate f (i + 1) (n - (i + 1)))
  first_kept at i h l here none =
      let e : at + (i - at) ≡ i = omega arith in
      misses (i - at) at (omega arith) (λ k q m. none k q (omega arith)) ∙ ap (λ (x : ℕ). keep_if p (tabulate f x (n - x))) e ∙ filter_hit p f n i l here

-- none of the units of a block is the unit
pub units_none : (section unit : ℕ) (c : Columns) (i size : ℕ) → some (λ (u : ℕ). eqb u unit) (tabulate (λ (k : ℕ). get_or c.units k 0) i size) ≡ false
    → NonePasses (of_unit section unit) c i (i + size)
unfolding row_of
units_none section unit c i size e k h l =
    and_right (eqb (row_at c k).section section) _ (none_of (λ (u : ℕ). eqb u unit) (λ (j : ℕ). get_or c.units j 0) i size e k h l)

-- the first row that passes begins those that pass
pub first_hit : (p : Split → Bool) (c : Columns) (n at : ℕ) (r : Option ℕ) → at ≤ n → FirstPlace p c at n r → NextHit p c n at r
first_hit p c n at None h none = record { is = none_kept p (row_at c) n at h none ∙ sym (rw (le-ltb n n (omega arith)) refl); past = h; small = omega arith }
first_hit p c n at (Some i) h s =
    (record { is = first_kept p (row_at c) n at i s.past s.small s.passes s.none ∙ sym (rw (lt-ltb i n s.small) refl); past = s.past; small = omega (arith, s.small) }, s.small)

-- ---- rows in a range

-- none of the starts of a block lies in the range
pub starts_none : (section from to : ℕ) (c : Columns) (i size : ℕ) → some (λ (s : ℕ). leb from s && ltb s to) (tabulate (λ (k : ℕ). get_or c.starts k 0) i size) ≡ false
    → (k : ℕ) → i ≤ k → k < i + size → within section from to (row_at c k) ≡ false
unfolding row_of
starts_none section from to c i size e k h l =
    and_right (eqb (row_at c k).section section) _
    (none_of (λ (s : ℕ). leb from s && ltb s to) (λ (j : ℕ). get_or c.starts j 0) i size e k h l)

-- some row from i on passes: the rows up to j do not
module _ {A : Type 0} (p : A → Bool) (f : ℕ → A) (n : ℕ) where
  skip : (d i : ℕ) → i + d ≤ n → ((k : ℕ) → i ≤ k → k < i + d → p (f k) ≡ false) → some p (tabulate f i (n - i)) ≡ some p (tabulate f (i + d) (n - (i + d)))
  skip zero i h none = ap (λ (x : ℕ). some p (tabulate f x (n - x))) (let e : i ≡ i + 0 = omega arith in e)
  skip (suc d) i h none =
      sym (some_row p f n i false (omega arith))
      ∙ ap (λ (b : Bool). b || some p (tabulate f (i + 1) (n - (i + 1)))) (none i (omega arith) (omega arith))
      ∙ skip d (i + 1) (omega arith) (λ k q l. none k (omega arith) (omega arith))
      ∙ ap (λ (x : ℕ). some p (tabulate f x (n - x))) (let e : i + 1 + d ≡ i + suc d = omega arith in e)

  pub some_skip : (i j : ℕ) → i ≤ j → j ≤ n → ((k : ℕ) → i ≤ k → k < j → p (f k) ≡ false) → some p (tabulate f i (n - i)) ≡ some p (tabulate f j (n - j))
  some_skip i j h l none =
      let e : i + (j - i) ≡ j = omega arith in
      skip (j - i) i (omega arith) (λ k q m. none k q (omega arith)) ∙ ap (λ (x : ℕ). some p (tabulate f x (n - x))) e
