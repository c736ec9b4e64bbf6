-- The entry `check_tables` on its lent bytes: all stage tables, each for 1, 2, then its kind's number, in the order of their kinds; what it answers
-- for every input (DECISIONS.md, 9 and 10). What tables that passed are: `names_passed` of name_table, `table_passed` of stage_tables, and the laws of
-- `tables` on the records of each kind.
use Rattle.std.specs.Prelude.{ℕ, ◌/◌, List, length}
use Rattle.lists.specs.Outcome.{Outcome, ◌>>◌}
use Rattle.tables.specs.Tables.{main_ceilings}
use Rattle.name_table.specs.NameTable.{names_check}
use Rattle.name_table.specs.Stored.{stage_lengths}
use Rattle.stage_tables.specs.StageTables.{stage_sections, image_check, symbols_check, relocs_check, splits_check, units_check}

-- all tables, "stage tables by kind"
unfoldable pub tables_of : (ends bytes sections places image symbols relocations splits units : List ℕ) → Outcome (Unit {0})
tables_of ends bytes sections places image symbols relocations splits units = do
  -- "1 name"
  names_check main_ceilings.names ends bytes
  -- "2 section", with the places of the sections' bytes in the image
  image_check main_ceilings.sections (stage_lengths ends bytes) places (length image) sections
  -- "3 symbol"
  symbols_check main_ceilings.symbols (length ends / 2) (stage_sections sections) symbols
  -- "4 relocation"
  relocs_check main_ceilings.relocations (stage_sections sections) (length symbols / 20) relocations
  -- "5 partial split"
  splits_check main_ceilings.splits (stage_lengths ends bytes) (stage_sections sections) splits
  -- "6 unit"
  units_check main_ceilings.units (stage_lengths ends bytes) units
