-- The entry's definitions over the tables that its functions are lent, and what these ask of the sections.
use Rattle.std.specs.Prelude.{ℕ, List}
use Rattle.lists.specs.Outcome.{Outcome}
use Rattle.obj.specs.declared.Split.{Split}
use Rattle.obj.specs.declared.Table.{Table}
use Rattle.names.specs.declared.Names.{Names}
use Rattle.tables.specs.Records.{sections_in}
use Rattle.tables.specs.Lent.{HeadsHeld}
use Rattle.sections.specs.declared.Obj.{Obj}
use Rattle.sections.specs.Image.{image_in}
use Rattle.sections.specs.Sections.{sections_of, Kept}
use Rattle.trim.specs.Lent.{sections_in as sections_lent}
use Rattle.lent_tables.specs.declared.StageTables.{StageTables}
use Rattle.entry_trim_splits.specs.Entry.{trim_of, from_splits, from_symbols, from_sections}

abbrev pub splits_outcome : Obj → (image : Table) → (splits : List ℕ) → (size : ℕ) → Outcome (List Split)
splits_outcome obj image splits size =
    from_splits obj.names.lengths.now (sections_in obj.heads.bytes.now obj.heads.places.now) (image_in obj) (sections_lent obj image) splits size

abbrev pub symbols_outcome : Names → (heads image : Table) → StageTables → (size : ℕ) → Outcome (List Split)
symbols_outcome names heads image lent size =
    from_symbols names.bytes.now names.places.now names.lengths.now (sections_in heads.bytes.now heads.places.now)
    (sections_of heads.bytes.now heads.places.now image.bytes.now image.places.now) lent.symbols.now lent.splits.now size

abbrev pub sections_outcome : Names → StageTables → (size : ℕ) → Outcome (List Split)
sections_outcome names lent size =
    from_sections names.bytes.now names.places.now names.lengths.now
    lent.sections.now lent.section_places.now lent.image.now lent.symbols.now lent.splits.now size

abbrev pub tables_outcome : StageTables → (size : ℕ) → Outcome (List Split)
tables_outcome lent size =
    trim_of lent.name_ends.now lent.name_bytes.now
    lent.sections.now lent.section_places.now lent.image.now lent.symbols.now lent.splits.now size

-- ---- the sections that passed

-- their records can be read, and their heads, names and bytes belong together
pub record HeadedIn (heads image : Table) (names : Names) : Type 0 where
  pub all : HeadsHeld heads
  pub kept : Kept heads.bytes.now heads.places.now image.bytes.now image.places.now names.places.now
