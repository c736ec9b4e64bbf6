-- Inside the entry: its definition from the symbols on, over what the tables before them leave, and by the structs that hold the tables.
use Rattle.std.specs.Prelude.{ℕ, ◌/◌, List, length}
use Rattle.lists.specs.Outcome.{Outcome, ◌>>◌}
use Rattle.obj.specs.declared.Section.{Section}
use Rattle.obj.specs.declared.Table.{Table}
use Rattle.lent_tables.specs.declared.StageTables.{StageTables}
use Rattle.tables.specs.Tables.{main_ceilings}
use Rattle.tables.specs.Records.{sections_in}
use Rattle.stage_tables.specs.StageTables.{symbols_check, relocs_check, splits_check, units_check}
use Rattle.entry_check_tables.specs.Entry.{tables_of}

-- from kind 3 on, over names and sections that passed
unfoldable pub from_symbols : (lengths : List ℕ) → (heads : List Section) → (symbols relocations splits units : List ℕ) → Outcome (Unit {0})
from_symbols lengths heads symbols relocations splits units = do
  symbols_check main_ceilings.symbols (length lengths) heads symbols
  relocs_check main_ceilings.relocations heads (length symbols / 20) relocations
  splits_check main_ceilings.splits lengths heads splits
  units_check main_ceilings.units lengths units

-- .. by the structs that hold the tables
abbrev pub from_symbols_in : (lengths : List ℕ) → (heads : Table) → StageTables → Outcome (Unit {0})
from_symbols_in lengths heads t = from_symbols lengths (sections_in heads.bytes.now heads.places.now) t.symbols.now t.relocs.now t.splits.now t.units.now

-- the whole definition, of the tables that are lent together
abbrev pub tables_in : StageTables → Outcome (Unit {0})
tables_in t =
    tables_of t.name_ends.now t.name_bytes.now t.sections.now t.section_places.now t.image.now t.symbols.now t.relocs.now t.splits.now t.units.now
