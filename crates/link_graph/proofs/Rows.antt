-- The rows of the columns as the list of splits, and the tests on neighbours at a place of it. Assumes nothing.
use Prim.Native.Nat.{ℕ, suc, ◌+◌, ◌-◌, ◌≤◌, ◌<◌, zero-le, suc-le-suc}
use mathlib.Core.Path.{◌≡◌, sym, ap, ◌∙◌}
use mathlib.Core.List.{List, [], ◌∷◌}
use mathlib.Core.Bool.{Bool, true, not, ◌&&◌, ◌||◌}
use native.Mathlib.Nat.{zero-add}
use native.Mathlib.Omega.{arith}
use borrow.Author.Tests.{eq-eqb, ne_eqb}
use lib.Dec.{eqb}
use lib.ListN.{length, get_or, take, length-map}
use lib.Seq.{ext_get_or, get_or-take, length-take-le}
use Rattle.std.proofs.lemmas.List.{get_or-map}
use Rattle.lists.specs.Rows.{any_of, any_from}
use Rattle.lists.specs.Sort.{All, none, each}
use Rattle.lists.proofs.Rows.{get_d_tabulate, length-tabulate}
use Rattle.obj.specs.declared.Split.{Split}
use Rattle.obj.specs.Nothing.{no_split}
use Rattle.splits.specs.Columns.{Columns, rows, row_at}
use Rattle.splits.proofs.Rows.{row_unit}
use Rattle.splits.specs.Questions.{is_common}
use Rattle.link_graph.specs.Graph.{units_of, split_at, is_first, apart}

-- what holds of each place of a list holds of each member
all_of : (P : ℕ → Type 0) (l : List ℕ) → ((i : ℕ) → i < length l → P (get_or l i 0)) → All P l
all_of P [] f = none
all_of P (x ∷ l) f = each (f 0 (suc-le-suc zero-le)) (all_of P l (λ i h. f (suc i) (suc-le-suc h)))

pub row_at_lem : (c : Columns) (n i : ℕ) → i < n → split_at (rows c n) i ≡ row_at c i
row_at_lem c n i h = get_d_tabulate (row_at c) 0 n i no_split h ∙ ap (row_at c) (zero-add i)

-- the first split of a section: the first of all, or one whose section is not that of the one before
pub first_of_all : (splits : List Split) (i : ℕ) → i ≡ 0 → is_first splits i ≡ true
unfolding is_first
first_of_all splits i e = rw (eq-eqb i 0 e)

pub first_by_section : (splits : List Split) (i : ℕ) → (i ≡ 0 → ⊥) → is_first splits i ≡ not (eqb (split_at splits (i - 1)).section (split_at splits i).section)
unfolding is_first
first_by_section splits i later = rw (ne_eqb i 0 later)

pub first_by_rows : (c : Columns) (n i : ℕ) {s t : Split} → i < n → (i ≡ 0 → ⊥) → s ≡ row_at c (i - 1) → t ≡ row_at c i → not (eqb s.section t.section) ≡ is_first (rows c n) i
first_by_rows c n i h later es et = rw (first_by_section (rows c n) i later, row_at_lem c n (i - 1) (omega arith), row_at_lem c n i h, es, et)

-- the code's four tests are those that keep two neighbours apart
pub apart_by_rows : (pointers : ℕ → Bool) (c : Columns) (n i : ℕ) {s t : Split} {first second passed : Bool} → i + 1 < n
    → s ≡ row_at c i → t ≡ row_at c (i + 1) → second ≡ is_common t → first ≡ is_common s
    → passed ≡ (is_first (rows c n) i && pointers (row_at c i).section)
    → (((not (eqb s.section t.section) || eqb s.unit t.unit) || (second && not first)) || passed) ≡ apart pointers (rows c n) i
unfolding apart any_of any_from
apart_by_rows pointers c n i h es et e2 e1 ep = rw (row_at_lem c n i (omega arith), row_at_lem c n (i + 1) h, ep, e2, e1, es, et)

-- ---- the units of the rows are those of their column
module _ (c : Columns) (n : ℕ) (h : n ≤ length c.units) where
  pub units_of_rows : units_of (rows c n) ≡ take n c.units
  units_of_rows =
      ext_get_or 0 (units_of (rows c n)) (take n c.units) (long ∙ sym (length-take-le n c.units h))
      (λ i q.
      let k : i < n = omega (arith, long) in
      get_or-map (λ (s : Split). s.unit) (rows c n) i no_split 0 (omega (arith, length-tabulate (row_at c) 0 n))
      ∙ ap (λ (s : Split). s.unit) (row_at_lem c n i k)
      ∙ row_unit _ _ _ _
      ∙ sym (get_or-take n c.units i 0 k))
    where
      long : length (units_of (rows c n)) ≡ n
      long = length-map (rows c n) (λ (s : Split). s.unit) ∙ length-tabulate (row_at c) 0 n

  -- .. and so have places in a column where the rows' have
  pub units_named : (m : ℕ) → ((i : ℕ) → i < n → (row_at c i).unit < m) → All (λ x. x < m) (take n c.units)
  units_named m named =
      all_of (λ x. x < m) (take n c.units)
      (λ i q.
      let k : i < n = omega (arith, length-take-le n c.units h) in
      let e : (row_at c i).unit ≡ get_or c.units i 0 = row_unit _ _ _ _ in
      rw (get_or-take n c.units i 0 k) (rw (sym e) (named i k)))
