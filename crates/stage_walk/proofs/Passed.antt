-- What tables that passed leave to the walk: splits whose unit names are there, units with a place for each name. Assumes nothing.
use Prim.Native.Nat.{ℕ, ◌/◌, ◌≤◌, ◌<◌}
use mathlib.Core.Path.{◌≡◌, sym, ap, subst, ◌∙◌}
use mathlib.Core.List.{List}
use native.Mathlib.Nat.{zero-add, mul-div-le}
use native.Mathlib.Omega.{arith}
use lib.ListN.{length, get_or, length-map}
use Rattle.std.proofs.lemmas.List.{get_or-map}
use Rattle.lists.specs.Outcome.{accepted}
use Rattle.lists.proofs.Rows.{get_d_tabulate, length-tabulate, has_place}
use Rattle.obj.specs.Records.{unit_at, split_at, stage_places, split_width}
use Rattle.obj.specs.declared.Section.{Section}
use Rattle.obj.specs.declared.Split.{Split}
use Rattle.obj.specs.declared.Unit as unit_records
use Rattle.obj.proofs.Laws.{length-stage_places}
use Rattle.obj.specs.Nothing.{no_split, no_unit}
use Rattle.tables.specs.Tables.{records_check}
use Rattle.tables.specs.Records.{split_fault}
use Rattle.tables.proofs.Laws as tables
use Rattle.tables.proofs.Lookups.{held, stage_held}
use Rattle.stage_tables.specs.StageTables.{stage_splits, stage_units, splits_check, units_check}
use Rattle.stage_tables.proofs.Laws.{table_passed}
use Rattle.splits.specs.Columns.{Columns, row_at, rows}
use Rattle.units.specs.Units.{Listed}
use Rattle.stage_walk.specs.Lines.{Rowed}

-- ---- splits
pub rows_named : (ceiling : ℕ) (lengths : List ℕ) (heads : List Section) (b : List ℕ) (c : Columns) (n : ℕ) → splits_check ceiling lengths heads b ≡ accepted tt
    → rows c n ≡ stage_splits b → Rowed c n (length lengths)
rows_named ceiling lengths heads b c n passed taken =
    record {
      named = λ k h.
          has_place lengths (row_at c k).unit
          (subst (λ (s : Split). 0 < get_or lengths s.unit 0) (sym (row_is k h))
          (tables.partials_named lengths (stage_splits b) m (tables.splits_partials lengths heads (stage_splits b) m records) k (omega (arith, h, many))));
    }
  where
    m : ℕ
    m = length b / split_width

    many : n ≡ m
    many = sym (length-tabulate (row_at c) 0 n) ∙ ap length taken ∙ length-map (stage_places split_width m) (split_at b) ∙ length-stage_places split_width m

    records : records_check (split_fault lengths heads (stage_splits b)) m ≡ accepted tt
    records = (table_passed split_width ceiling b _ passed).2

    row_is : (k : ℕ) → k < n → row_at c k ≡ get_or (stage_splits b) k no_split
    row_is k h = sym (get_d_tabulate (row_at c) 0 n k no_split h ∙ ap (row_at c) (zero-add k)) ∙ ap (λ (l : List Split). get_or l k no_split) taken

-- ---- units
module _ (lengths b : List ℕ) (passed : units_check 1024 lengths b ≡ accepted tt) where
  pub units_few : length b / 8 ≤ 1024
  units_few = (table_passed 8 1024 b _ passed).1

  unit_is : (k : ℕ) → k < length b / 8 → unit_at b (get_or (stage_places 8 (length b / 8)) k 0) ≡ get_or (stage_units b) k no_unit
  unit_is k h = sym (get_or-map (unit_at b) (stage_places 8 (length b / 8)) k 0 no_unit (rw length-stage_places h))

  pub units_listed : (places column : List ℕ) → places ≡ stage_places 8 (length b / 8) → length lengths ≤ length column → Listed b places column
  units_listed places column e long =
      subst (λ (l : List ℕ). Listed b l column) (sym e)
      (record {
        few = omega (arith, units_few, length-stage_places 8 (length b / 8));
        held = λ k h. held (stage_held 8 (length b / 8) b (omega (arith, units_few)) (mul-div-le (length b) 8)) k h;
        named = λ k h.
            let q : k < length b / 8 = rw length-stage_places at h in
            let there = has_place lengths _ (tables.units_named lengths (stage_units b) (length b / 8) (table_passed 8 1024 b _ passed).2 k q) in
            omega (arith, there, ap (λ (u : unit_records.Unit). u.name) (unit_is k q), long);
      })
