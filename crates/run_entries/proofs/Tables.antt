-- A split table that a stage of a run left, and one without splits, as an entry takes them: they pass and are read back (the laws of file_tables). Assumes nothing.
use Prim.Native.Nat.{ℕ, ◌≤◌}
use mathlib.Core.Path.{◌≡◌}
use mathlib.Core.List.{List, []}
use native.Mathlib.Nat.{not-suc-le-zero}
use native.Mathlib.Omega.{arith}
use Rattle.lists.specs.Outcome.{accepted}
use Rattle.lists.specs.Sort.{none}
use Rattle.lists.proofs.All.{all_map}
use Rattle.obj.specs.declared.Split.{Split}
use Rattle.tables.specs.Records.{sections_in}
use Rattle.name_table.specs.Stored.{stage_lengths}
use Rattle.stage_tables.specs.StageTables.{stage_sections, stage_splits, splits_check}
use Rattle.stage_tables.proofs.Laws.{no_splits}
use Rattle.stage_names.specs.StageNames.{flat, name_ends}
use Rattle.load.specs.Load.{Loaded}
use Rattle.loaded.specs.Tables.{Usable}
use Rattle.splits.specs.Bytes.{table_bytes}
use Rattle.file_tables.specs.Tables.{tables_of, Clean}
use Rattle.file_tables.proofs.Stages.{stage_splits_back, stage_splits_pass}
use Rattle.split_origins.proofs.Originated.{origin_fits}
use Rattle.run_entries.proofs.Good.{Good}

module _ {file : List ℕ} {t : Loaded} (u : Usable file t) {names : List (List ℕ)} (clean : Clean names) where
  module _ {room : ℕ} {rows : List Split} (good : Good (sections_in file t.sections) room names rows) where
    pub rows_back : stage_splits (table_bytes rows) ≡ rows
    rows_back = stage_splits_back u names clean rows good.faultless (all_map origin_fits good.origins)

    pub splits_pass : (ceiling : ℕ) → room ≤ ceiling
        → splits_check ceiling (stage_lengths (name_ends names) (flat names)) (stage_sections (tables_of file t).sections) (table_bytes rows) ≡ accepted tt
    splits_pass ceiling h = stage_splits_pass u names clean rows good.faultless (all_map origin_fits good.origins) ceiling (omega (arith, h, good.few))

  -- the merge's first table has no splits
  pub none_pass : (ceiling : ℕ) → splits_check ceiling (stage_lengths (name_ends names) (flat names)) (stage_sections (tables_of file t).sections) [] ≡ accepted tt
  unfolding table_bytes
  none_pass ceiling = stage_splits_pass u names clean [] (λ k h. absurd (not-suc-le-zero h)) none ceiling (omega arith)
