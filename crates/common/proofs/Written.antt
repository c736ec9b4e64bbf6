-- Rows as split records and back: a record written back into the rest of its row, and what marking leaves as it was. Assumes nothing.
use mathlib.Core.Path.{◌≡◌, refl, sym, ap, ◌∙◌, subst}
use mathlib.Core.List.{List, map}
use mathlib.Core.Bool.{Bool, true, false, cond, ◌&&◌}
use Prim.Native.Nat.{ℕ, ◌+◌, ◌≤◌, ◌<◌}
use native.Mathlib.Omega.{arith}
use native.Mathlib.Nat.{zero-add}
use lib.Dec.{eqb, leb}
use lib.ListN.{length, get_or, set, take, length-set}
use lib.Seq.{get_or-set_same, get_or-set_other, get_or-take}
use borrow.Author.Count.{below_more}
use Rattle.lists.proofs.Rows.{get_d_tabulate}
use Rattle.obj.specs.declared.Split.{Split}
use Rattle.obj.specs.Nothing.{no_split}
use Rattle.splits.specs.Columns.{Good, columns, row_of, row_at, rows}
use Rattle.splits.specs.Table.{columns_of, rows_of, rest_columns, rest_rows}
use Rattle.splits.specs.Updates.{with_common}
use Rattle.splits.specs.declared.split_table.SplitColumns.{SplitColumns}
use Rattle.splits.specs.declared.one_column.SplitRest.{SplitRest}
use Rattle.splits.proofs.Rows.{good_row}
use Rattle.common.specs.Common.{marked}
use Rattle.common.specs.Records.{Kept}
use Rattle.std.proofs.lemmas.List.{take-map, get_or-map}
use Rattle.lists.proofs.Mapping.{tabulate-take}

-- ---- the records up to i are written back
pub record Writing (starts ends units rest₀ rest : List ℕ) (table : List Split) (i : ℕ) : Type 0 where
  pub long : length rest ≡ length rest₀
  pub passed : (k : ℕ) → k < i → row_at (columns starts ends units rest) k ≡ get_or table k no_split

module _ (starts ends units rest₀ : List ℕ) (table : List Split) where
  pub writing_start : Writing starts ends units rest₀ rest₀ table 0
  writing_start = record { long = refl; passed = λ k l. absurd (let z : ⊥ = omega arith in z) }

  pub writing_more : (rest : List ℕ) (n i v : ℕ) → i < length rest → i < n → Kept (columns starts ends units rest₀) table n
      → row_of (get_or table i no_split).start (get_or table i no_split).end (get_or table i no_split).unit v ≡ get_or table i no_split
      → Writing starts ends units rest₀ rest table i → Writing starts ends units rest₀ (set rest i v) table (i + 1)
  writing_more rest n i v h m kept q w = record {
    long = length-set rest i v ∙ w.long;
    passed = below_more _ _
        (λ k l. ap (λ (x : ℕ). row_of (get_or starts k 0) (get_or ends k 0) (get_or units k 0) x) (get_or-set_other rest i k v 0 (λ z. omega arith)) ∙ w.passed k l)
        (ap (λ (x : ℕ). row_of (get_or starts i 0) (get_or ends i 0) (get_or units i 0) x) (get_or-set_same rest i v 0 h)
        ∙ sym (λ j. row_of (kept.start i m j) (kept.end i m j) (kept.unit i m j) v)
        ∙ q);
  }

  pub writing_done : (rest : List ℕ) (n : ℕ) → n ≤ length table → Writing starts ends units rest₀ rest table n → rows (columns starts ends units rest) n ≡ take n table
  writing_done rest n h w = tabulate-take (row_at (columns starts ends units rest)) n table no_split h w.passed

-- ---- the records of the rows, marked
module _ (section address start end unit rest : ℕ) where
  abbrev row : Split
  row = row_of start end unit rest

  marked_start : (marked section address row).start ≡ start
  unfolding marked row_of
  marked_start = go (eqb row.section section && leb address start)
    where
      go : (b : Bool) → (cond b (with_common row) row).start ≡ start
      go true = refl
      go false = refl

  marked_end : (marked section address row).end ≡ end
  unfolding marked row_of
  marked_end = go (eqb row.section section && leb address start)
    where
      go : (b : Bool) → (cond b (with_common row) row).end ≡ end
      go true = refl
      go false = refl

  marked_unit : (marked section address row).unit ≡ unit
  unfolding marked row_of
  marked_unit = go (eqb row.section section && leb address start)
    where
      go : (b : Bool) → (cond b (with_common row) row).unit ≡ unit
      go true = refl
      go false = refl

  marked_alignment : row.alignment ≡ (marked section address row).alignment
  unfolding marked row_of
  marked_alignment = go (eqb row.section section && leb address start)
    where
      go : (b : Bool) → row.alignment ≡ (cond b (with_common row) row).alignment
      go true = refl
      go false = refl

module _ (section address : ℕ) (starts ends units rest : List ℕ) (table : List Split) (n : ℕ) (h : n ≤ length table) (q : take n table ≡ rows (columns starts ends units rest) n) where
  abbrev f : ℕ → Split
  f = row_at (columns starts ends units rest)

  marked_at : (k : ℕ) → k < n → get_or (map (marked section address) table) k no_split ≡ marked section address (f k)
  marked_at k l =
      get_or-map (marked section address) table k no_split no_split (omega arith)
      ∙ ap (marked section address) (sym (get_or-take n table k no_split l) ∙ ap (λ (t : List Split). get_or t k no_split) q ∙ get_d_tabulate f 0 n k no_split l ∙ ap f (zero-add k))

  rows_kept : Kept (columns starts ends units rest) (map (marked section address) table) n
  rows_kept = record {
    start = λ k l. ap (λ (s : Split). s.start) (marked_at k l) ∙ marked_start section address (get_or starts k 0) (get_or ends k 0) (get_or units k 0) (get_or rest k 0);
    end = λ k l. ap (λ (s : Split). s.end) (marked_at k l) ∙ marked_end section address (get_or starts k 0) (get_or ends k 0) (get_or units k 0) (get_or rest k 0);
    unit = λ k l. ap (λ (s : Split). s.unit) (marked_at k l) ∙ marked_unit section address (get_or starts k 0) (get_or ends k 0) (get_or units k 0) (get_or rest k 0);
    aligned = λ k l. subst Good
        (marked_alignment section address (get_or starts k 0) (get_or ends k 0) (get_or units k 0) (get_or rest k 0) ∙ sym (ap (λ (s : Split). s.alignment) (marked_at k l)))
        (good_row (get_or starts k 0) (get_or ends k 0) (get_or units k 0) (get_or rest k 0));
  }

  rows_front : take n (map (marked section address) table) ≡ map (marked section address) (rows (columns starts ends units rest) n)
  rows_front = take-map (marked section address) n table ∙ ap (map (marked section address)) q

-- .. of a table's columns to read, which were made the first of 1,024 records
module _ (section address : ℕ) (s : SplitColumns) (t : SplitRest) (shown : columns_of s ≡ rest_columns t) (count : s.count ≡ t.count) (table after : List Split)
    (long : length table ≡ 1024) (few : t.count ≤ 1024) (are : take s.count table ≡ rows_of s) (is : after ≡ map (marked section address) table) where
  pub marked-kept : Kept (rest_columns t) after t.count
  marked-kept = rw is (rows_kept section address t.starts.now t.ends.now t.units.now t.rest.now table t.count (omega arith) (rw (shown, count) at are))

  pub marked_front : take t.count after ≡ map (marked section address) (rest_rows t)
  marked_front = ap (take t.count) is ∙ rows_front section address t.starts.now t.ends.now t.units.now t.rest.now table t.count (omega arith) (rw (shown, count) at are)
