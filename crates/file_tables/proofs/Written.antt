-- A split table or a unit table that one stage wrote and the next takes: its records are read as they were written, and where none has a fault the table passes.
-- A split without a fault has fields within their widths. Assumes nothing.
use Prim.Native.Nat.{ℕ, ◌*◌, ◌/◌, ◌≤◌, ◌<◌}
use mathlib.Core.Path.{◌≡◌, refl, sym, ap, ◌∙◌}
use mathlib.Core.Bool.{Bool, true, false}
use mathlib.Core.List.{List, [], append-nil, map, map-id, map-map}
use native.Mathlib.Omega.{arith}
use borrow.Author.Tests.{eqb-true, eqb-false}
use lib.Dec.{eqb}
use lib.ListN.{length, get_or}
use Rattle.lists.specs.Outcome.{accepted}
use Rattle.lists.specs.Sort.{All}
use Rattle.lists.proofs.All.{all_at}
use Rattle.lists.proofs.Parts.{tabulate-map, tabulate_list}
use Rattle.lists.proofs.Rows.{has_place}
use Rattle.lists.proofs.Stores.{sets-itself}
use Rattle.align.proofs.Laws.{low_align}
use Rattle.obj.specs.Records.{unit_at, stage_places, split_width}
use Rattle.obj.specs.declared.Section.{Section}
use Rattle.obj.specs.declared.Split.{Split}
use Rattle.obj.specs.declared.Unit as units
use Rattle.obj.specs.Nothing.{no_split, no_unit}
use Rattle.tables.specs.Records.{splits_in, units_in, split_fault, unit_fault}
use Rattle.tables.proofs.Laws.{records_pass, splits_partials, splits_section, partials_named, partials_renamed, partials_aligned, partials_flags, partials_start, partials_end}
use Rattle.stage_tables.specs.StageTables.{table_check, stage_splits, stage_units, splits_check, units_check}
use Rattle.stage_tables.proofs.Laws.{no_splits}
use Rattle.splits.specs.Bytes.{table_bytes, Fits}
use Rattle.splits.proofs.Bytes.{length-table_bytes, splits_back}
use Rattle.units.specs.Units.{unit_names}
use Rattle.order.specs.Bytes as written
use Rattle.order.proofs.Bytes.{length-units_bytes, units_back}
use Rattle.file_tables.proofs.Checks.{table_passes}

-- ---- splits

-- THEOREM: the rows that were written are read back
pub rows_read : (rows : List Split) → ((k : ℕ) → k < length rows → Fits (get_or rows k no_split)) → stage_splits (table_bytes rows) ≡ rows
rows_read rows fits =
    ap (λ (n : ℕ). splits_in (table_bytes rows) (stage_places split_width n)) (let e : length (table_bytes rows) / split_width ≡ length rows = omega (arith, length-table_bytes rows) in e)
    ∙ ap (λ (b : List ℕ). splits_in b (stage_places split_width (length rows))) (sym (sets-itself (table_bytes rows)))
    ∙ splits_back (table_bytes rows) rows (omega (arith, length-table_bytes rows)) no_split fits

module _ (lengths : List ℕ) (sections : List Section) (rows : List Split) (few_names : length lengths ≤ 65536) (few_sections : length sections ≤ 65536)
    (faultless : (k : ℕ) → k < length rows → split_fault lengths sections rows k ≡ 0) (origins : All (λ s. s.origin < 65536) rows) where
  -- the fields of a split without a fault have their widths
  pub rows_fit : (k : ℕ) → k < length rows → Fits (get_or rows k no_split)
  rows_fit k h =
      let s = records_pass (split_fault lengths sections rows) (length rows) faultless in
      let p = splits_partials lengths sections rows (length rows) s in
      record {
        section = omega (arith, splits_section lengths sections rows (length rows) s k h);
        start = omega (arith, partials_start lengths rows (length rows) p k h);
        end = omega (arith, partials_end lengths rows (length rows) p k h);
        unit = omega (arith, has_place lengths _ (partials_named lengths rows (length rows) p k h));
        alignment = low_align _ (partials_aligned lengths rows (length rows) p k h);
        flags = omega (arith, partials_flags lengths rows (length rows) p k h);
        rename = rename (eqb (get_or rows k no_split).rename 65535) refl;
        origin = all_at k no_split origins h;
      }
    where
      rename : (t : Bool) → eqb (get_or rows k no_split).rename 65535 ≡ t → (get_or rows k no_split).rename < 65536
      rename true q = omega (arith, eqb-true (get_or rows k no_split).rename 65535 q)
      rename false q =
          let p = splits_partials lengths sections rows (length rows) (records_pass (split_fault lengths sections rows) (length rows) faultless) in
          omega (arith, has_place lengths (get_or rows k no_split).rename (partials_renamed lengths rows (length rows) p k h (eqb-false (get_or rows k no_split).rename 65535 q)))

  -- THEOREM: rows without a fault are read back ..
  pub split_table_back : stage_splits (table_bytes rows) ≡ rows
  split_table_back = rows_read rows rows_fit

  -- THEOREM: .. and pass, under any ceiling that they are within
  pub split_table_passes : (ceiling : ℕ) → length rows ≤ ceiling → splits_check ceiling lengths sections (table_bytes rows) ≡ accepted tt
  split_table_passes ceiling few =
      ap (λ (l : List Split). table_check split_width ceiling (table_bytes rows) (split_fault lengths sections l)) split_table_back
      ∙ table_passes split_width ceiling (table_bytes rows) (split_fault lengths sections rows) (length rows) (omega (arith, length-table_bytes rows))
      (omega (arith, length-table_bytes rows)) few faultless

-- ---- units

module _ (us : List units.Unit) (fits : (k : ℕ) → k < length us → written.Fits (get_or us k no_unit)) where
  -- THEOREM: the units that were written are read back ..
  pub units_table_back : stage_units (written.units_bytes us) ≡ us
  unfolding stage_places
  units_table_back =
      let bytes = written.units_bytes us in
      ap (λ (n : ℕ). units_in bytes (stage_places 8 n)) (let e : length bytes / 8 ≡ length us = omega (arith, length-units_bytes us) in e)
      ∙ sym (tabulate-map (unit_at bytes) (λ k. 8 * k) (λ k. unit_at bytes (8 * k)) 0 (length us) (λ j m q. refl))
      ∙ tabulate_list (λ x. x) (λ k. unit_at bytes (8 * k)) us no_unit
      (λ k h. ap (λ (b : List ℕ). unit_at b (8 * k)) (sym (append-nil bytes)) ∙ units_back us [] k no_unit h (fits k h))
      ∙ map-id us

  -- .. and their names alone, as the walk takes them
  pub unit_names-written : unit_names (written.units_bytes us) (stage_places 8 (length (written.units_bytes us) / 8)) ≡ map (λ (x : units.Unit). x.name) us
  unit_names-written =
      sym (map-map (λ (x : units.Unit). x.name) (unit_at (written.units_bytes us)) (stage_places 8 (length (written.units_bytes us) / 8)))
      ∙ ap (map (λ (x : units.Unit). x.name)) units_table_back

  -- THEOREM: .. and pass where none has a fault, under any ceiling that they are within
  pub units_table_passes : (lengths : List ℕ) (ceiling : ℕ) → length us ≤ ceiling → ((k : ℕ) → k < length us → unit_fault lengths us k ≡ 0)
      → units_check ceiling lengths (written.units_bytes us) ≡ accepted tt
  units_table_passes lengths ceiling few faultless =
      ap (λ (l : List units.Unit). table_check 8 ceiling (written.units_bytes us) (unit_fault lengths l)) units_table_back
      ∙ table_passes 8 ceiling (written.units_bytes us) (unit_fault lengths us) (length us) (omega (arith, length-units_bytes us)) (omega (arith, length-units_bytes us)) few faultless
