-- The entry `validate_splits` on its lent bytes: what it answers for every input. "stage tables by kind .., each for 1, 2, then its kind's number", then the
-- check (validate/specs/Check.antt). Its answer is the word of this outcome.
use Rattle.std.specs.Prelude.{ℕ, ◌/◌, List, length}
use Rattle.lists.specs.Outcome.{Outcome, ◌>>◌}
use Rattle.obj.specs.Records.{stage_places}
use Rattle.tables.specs.Tables.{main_ceilings}
use Rattle.name_table.specs.NameTable.{names_check}
use Rattle.name_table.specs.Stored.{stage_lengths}
use Rattle.stage_tables.specs.StageTables.{stage_sections, stage_splits, sections_check, symbols_check, splits_check}
use Rattle.symbol_order.specs.Order.{symbol_of}
use Rattle.validate.specs.Check.{validate}

unfoldable pub validate_of : (ends bytes sections symbols splits : List ℕ) → Outcome (Unit {0})
validate_of ends bytes sections symbols splits = do
  -- "1 name"
  names_check main_ceilings.names ends bytes
  -- "2 section"
  sections_check main_ceilings.sections (stage_lengths ends bytes) sections
  -- "3 symbol"
  symbols_check main_ceilings.symbols (length ends / 2) (stage_sections sections) symbols
  -- "5 partial split"
  splits_check main_ceilings.splits (stage_lengths ends bytes) (stage_sections sections) splits
  -- "**Check.** .."
  validate (symbol_of symbols (stage_places 20 (length symbols / 20))) (length symbols / 20) (stage_splits splits)
