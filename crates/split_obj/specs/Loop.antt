-- The walk over lent tables and columns: what is asked of them. On a refusal the output tables may hold anything.
use Rattle.std.specs.Prelude.{ℕ, ◌+◌, ◌≤◌, ◌<◌, List, length}
use Rattle.sections.specs.Sections.{Kept}
use Rattle.splits.specs.Columns.{Columns, row_at}
use Rattle.relocs.specs.Relocs as relocs
use Rattle.pieces.specs.declared.lent.PieceTables.{PieceTables}
use Rattle.walk.specs.Steps.{Asked}
use Rattle.walk.specs.Giving.{Beside}

-- the tables that are only read: symbols, names, sections with their bytes, relocations, splits in columns, units with the column of their numbers
pub record Ready (symbols symbol_places order name_bytes name_places name_lengths heads head_places image image_places relocs-bytes reloc_places unit_places unit_numbers : List ℕ) (c : Columns) (rows last : ℕ) : Type 0 where
  pub asked : Asked symbols symbol_places order name_bytes name_places name_lengths
  pub kept : Kept heads head_places image image_places name_places
  pub whole : relocs.Whole relocs-bytes reloc_places
  pub rising : relocs.Rising (relocs.reloc_of relocs-bytes reloc_places) (length reloc_places)
  pub few_relocs : length reloc_places ≤ 4096
  pub few_units : length unit_places ≤ 1024
  pub named : (i : ℕ) → i < rows → (row_at c i).unit < length unit_numbers
  pub within : last ≤ length head_places

-- the output tables with the columns beside them, and a column for the relocations of a section
pub record Tabled (symbols relocs units : ℕ) (scratch part : List ℕ) (t : PieceTables) : Type 0 where
  pub beside : Beside symbols scratch t
  pub counts_long : 8192 + units ≤ length scratch
  pub part_long : relocs ≤ length part
