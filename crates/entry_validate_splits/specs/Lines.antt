-- Inside the entry: its definition from one table on, over what the tables before it leave, and by the structs that hold the tables.
use Rattle.std.specs.Prelude.{ℕ, ◌/◌, List, length}
use Rattle.lists.specs.Outcome.{Outcome, ◌>>◌}
use Rattle.obj.specs.Records.{stage_places}
use Rattle.obj.specs.declared.Section.{Section}
use Rattle.obj.specs.declared.Symbol.{Symbol}
use Rattle.obj.specs.declared.Table.{Table}
use Rattle.lent_tables.specs.declared.StageTables.{StageTables}
use Rattle.tables.specs.Tables.{main_ceilings}
use Rattle.tables.specs.Records.{sections_in}
use Rattle.stage_tables.specs.StageTables.{stage_splits, symbols_check, splits_check}
use Rattle.symbol_order.specs.Order.{symbol_of}
use Rattle.validate.specs.Check.{validate}
use Rattle.entry_validate_splits.specs.Entry.{validate_of}

-- from the splits on, over symbols that passed
unfoldable pub from_splits : (lengths : List ℕ) → (heads : List Section) → (symbol : ℕ → Symbol) → (count : ℕ) → (splits : List ℕ) → Outcome (Unit {0})
from_splits lengths heads symbol count splits = do
  splits_check main_ceilings.splits lengths heads splits
  validate symbol count (stage_splits splits)

-- from the symbols on, over names and sections that passed
unfoldable pub from_symbols : (lengths : List ℕ) → (heads : List Section) → (symbols splits : List ℕ) → Outcome (Unit {0})
from_symbols lengths heads symbols splits = do
  symbols_check main_ceilings.symbols (length lengths) heads symbols
  from_splits lengths heads (symbol_of symbols (stage_places 20 (length symbols / 20))) (length symbols / 20) splits

-- .. by the structs that hold the tables
abbrev pub from_splits_in : (lengths : List ℕ) → (heads symbols : Table) → (splits : List ℕ) → Outcome (Unit {0})
from_splits_in lengths heads symbols splits =
    from_splits lengths (sections_in heads.bytes.now heads.places.now) (symbol_of symbols.bytes.now symbols.places.now) (length symbols.places.now) splits

abbrev pub from_symbols_in : (lengths : List ℕ) → (heads : Table) → StageTables → Outcome (Unit {0})
from_symbols_in lengths heads t = from_symbols lengths (sections_in heads.bytes.now heads.places.now) t.symbols.now t.splits.now

-- the whole definition, of the tables that are lent together
abbrev pub validate_in : StageTables → Outcome (Unit {0})
validate_in t = validate_of t.name_ends.now t.name_bytes.now t.sections.now t.symbols.now t.splits.now
