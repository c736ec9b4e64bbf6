-- The checks as the stages' entries make them: with the lengths and the count that they read of the name table, and the sections that they read of theirs.
-- Assumes nothing.
use Prim.Native.Nat.{ℕ, ◌/◌, ◌≤◌, ◌<◌}
use mathlib.Core.Path.{◌≡◌, ap, ap₂, ◌∙◌}
use mathlib.Core.List.{List, ◌++◌, map}
use native.Mathlib.Omega.{arith}
use lib.ListN.{length, get_or, length-map}
use Rattle.lists.specs.Outcome.{accepted}
use Rattle.lists.specs.Sort.{All}
use Rattle.obj.specs.Records.{section_at}
use Rattle.obj.specs.declared.Section.{Section}
use Rattle.obj.specs.declared.Split.{Split}
use Rattle.obj.specs.declared.Unit as units
use Rattle.obj.specs.Nothing.{no_unit}
use Rattle.tables.specs.Records.{sections_in, split_fault, unit_fault}
use Rattle.name_table.specs.Stored.{stage_lengths}
use Rattle.stage_tables.specs.StageTables.{stage_sections, sections_check, image_check, symbols_check, partials_check, splits_check, units_check, stage_splits}
use Rattle.stage_names.specs.StageNames.{flat, name_ends}
use Rattle.splits.specs.Bytes.{table_bytes}
use Rattle.order.specs.Bytes.{units_bytes, Fits}
use Rattle.load.specs.Load.{Loaded, names_in}
use Rattle.loaded.specs.Tables.{Usable}
use Rattle.loaded.proofs.Laws.{few_sections}
use Rattle.file_tables.specs.Tables.{tables_of, Clean}
use Rattle.file_tables.proofs.Records.{sections_back}
use Rattle.file_tables.proofs.Names.{name_count, lengths_back}
use Rattle.file_tables.proofs.Checks.{sections_pass, image_pass, symbols_pass, partials_pass, units_pass}
use Rattle.file_tables.proofs.Written.{split_table_back, split_table_passes, units_table_passes}

-- what holds with the names' lengths holds with those that are read of their table
lengths_as : {A : Type 0} (names : List (List ℕ)) → Clean names → (check : List ℕ → A) {want : A} → check (map length names) ≡ want
    → check (stage_lengths (name_ends names) (flat names)) ≡ want
lengths_as names c check e = ap check (lengths_back names c.short) ∙ e

module _ {file : List ℕ} {t : Loaded} (u : Usable file t) (names more : List (List ℕ)) (extends : names ≡ names_in file t ++ more) (c : Clean names) where
  -- ---- the tables of the file
  pub stage_sections_pass : sections_check 64 (stage_lengths (name_ends names) (flat names)) (tables_of file t).sections ≡ accepted tt
  stage_sections_pass = lengths_as names c (λ l. sections_check 64 l (tables_of file t).sections) (sections_pass u names more extends)

  pub stage_image_pass : image_check 64 (stage_lengths (name_ends names) (flat names)) (tables_of file t).places (length file) (tables_of file t).sections ≡ accepted tt
  stage_image_pass = lengths_as names c (λ l. image_check 64 l (tables_of file t).places (length file) (tables_of file t).sections) (image_pass u names more extends)

  pub stage_symbols_pass : symbols_check 4096 (length (name_ends names) / 2) (stage_sections (tables_of file t).sections) (tables_of file t).symbols ≡ accepted tt
  stage_symbols_pass =
      ap (λ (n : ℕ). symbols_check 4096 n (stage_sections (tables_of file t).sections) (tables_of file t).symbols) (name_count names) ∙ symbols_pass u names more extends

  pub stage_partials_pass : partials_check 1024 (stage_lengths (name_ends names) (flat names)) (tables_of file t).partials ≡ accepted tt
  stage_partials_pass = lengths_as names c (λ l. partials_check 1024 l (tables_of file t).partials) (partials_pass u names more extends)

  pub stage_units_pass : units_check 1024 (stage_lengths (name_ends names) (flat names)) (tables_of file t).units ≡ accepted tt
  stage_units_pass = lengths_as names c (λ l. units_check 1024 l (tables_of file t).units) (units_pass u names more extends)

-- ---- rows that a stage left, over the file's sections
module _ {file : List ℕ} {t : Loaded} (u : Usable file t) (names : List (List ℕ)) (c : Clean names) (rows : List Split)
    (faultless : (k : ℕ) → k < length rows → split_fault (map length names) (sections_in file t.sections) rows k ≡ 0) (origins : All (λ s. s.origin < 65536) rows) where
  many_lengths : length (map length names) ≤ 65536
  many_lengths = omega (arith, length-map names length, c.few)

  many_sections : length (sections_in file t.sections) ≤ 65536
  many_sections = omega (arith, length-map t.sections (section_at file), few_sections u)

  pub stage_splits_back : stage_splits (table_bytes rows) ≡ rows
  stage_splits_back = split_table_back (map length names) (sections_in file t.sections) rows many_lengths many_sections faultless origins

  pub stage_splits_pass : (ceiling : ℕ) → length rows ≤ ceiling
      → splits_check ceiling (stage_lengths (name_ends names) (flat names)) (stage_sections (tables_of file t).sections) (table_bytes rows) ≡ accepted tt
  stage_splits_pass ceiling few =
      ap₂ (λ (l : List ℕ) (s : List Section). splits_check ceiling l s (table_bytes rows)) (lengths_back names c.short) (sections_back u)
      ∙ split_table_passes (map length names) (sections_in file t.sections) rows many_lengths many_sections faultless origins ceiling few

-- ---- units that the order left
pub stage_order_pass : (names : List (List ℕ)) → Clean names → (us : List units.Unit) → ((k : ℕ) → k < length us → Fits (get_or us k no_unit))
    → (ceiling : ℕ) → length us ≤ ceiling → ((k : ℕ) → k < length us → unit_fault (map length names) us k ≡ 0)
    → units_check ceiling (stage_lengths (name_ends names) (flat names)) (units_bytes us) ≡ accepted tt
stage_order_pass names c us fits ceiling few faultless =
    lengths_as names c (λ l. units_check ceiling l (units_bytes us)) (units_table_passes us fits (map length names) ceiling few faultless)
