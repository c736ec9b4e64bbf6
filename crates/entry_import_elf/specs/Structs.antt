-- The structs that the steps of the entry hand on, as the definitions speak of their columns.
use Rattle.std.specs.Prelude.{ℕ, ◌≡◌, List, length, Result, Ok, Err}
use Rattle.lists.specs.Outcome.{Outcome, refused}
use Rattle.obj.specs.Answers.{Answer}
use Rattle.obj.specs.declared.Refusal.{Refusal}
use Rattle.elf_file.specs.declared.file.ElfFile.{ElfFile}
use Rattle.number_names.specs.Numbers as numbers
use Rattle.number_names.specs.Tables.{listed}
use Rattle.number_names.specs.declared.table.KnownNames.{KnownNames}
use Rattle.import.specs.Import.{Rooms, Tables, tables_of, tables_check}
use Rattle.entry_import_elf.specs.declared.Imported.{Imported}
use Rattle.entry_import_elf.specs.declared.Rows.{Rows}
use Rattle.entry_import_elf.specs.declared.RowOutputs.{RowOutputs}
use Rattle.entry_import_elf.specs.declared.source.Source.{Source}
use Rattle.entry_import_elf.specs.Entry.{sections_room, symbols_room, rooms_of, Leaves}
use Rattle.entry_import_elf.specs.Stages.{image_stage, sections_stage, RowsGiven, TablesGiven}

-- the tables of a file whose names are known
abbrev pub tables_in : ElfFile → KnownNames → Tables
tables_in file names = tables_of file.bytes.now (listed names)

abbrev pub tables_from : Source → Tables
tables_from source = tables_in source.file source.names.known

-- the room of outputs, of these lengths those of the names
abbrev pub rooms_in : (ends bytes : ℕ) → RowOutputs → Rooms
rooms_in ends bytes rows = rooms_of ends bytes (length rows.sections.now) (length rows.places.now) (length rows.symbols.now)

-- what the checks say from the sections as they were written on, from the sections on, and from the names on
abbrev pub image_outcome : Source → (symbols : ℕ) → Outcome (Unit {0})
image_outcome source symbols = image_stage (length source.file.bytes.now) (symbols_room symbols) (tables_from source)

abbrev pub sections_outcome : ElfFile → KnownNames → RowOutputs → Outcome (Unit {0})
sections_outcome file names rows =
    sections_stage (length file.bytes.now) (sections_room (length rows.sections.now) (length rows.places.now)) (symbols_room (length rows.symbols.now)) (tables_in file names)

abbrev pub tables_outcome : ElfFile → numbers.Room → (names : List (List ℕ)) → RowOutputs → Outcome (Unit {0})
tables_outcome file room names rows =
    tables_check (length file.bytes.now)
    (record { names = room; sections = sections_room (length rows.sections.now) (length rows.places.now); symbols = symbols_room (length rows.symbols.now) })
    (tables_of file.bytes.now names)

-- `RowsGiven` and `TablesGiven` of outputs that were `before` and are `after`
abbrev pub RowsGivenIn : Outcome (Unit {0}) → Tables → (before after : RowOutputs) → Result Rows Refusal → Type 0
RowsGivenIn o t before after r = RowsGiven o t before.sections.now before.places.now before.symbols.now after.sections.now after.places.now after.symbols.now r

abbrev pub TablesGivenIn : Outcome Tables → (ends₀ bytes₀ : List ℕ) → (before : RowOutputs) → (ends bytes : List ℕ) → (after : RowOutputs) → Result Imported Refusal → Type 0
TablesGivenIn o ends₀ bytes₀ before ends bytes after r =
    TablesGiven o ends₀ bytes₀ before.sections.now before.places.now before.symbols.now ends bytes after.sections.now after.places.now after.symbols.now r

-- .. with the counts: all that the entry leaves of an accepted import, and why it is refused
abbrev pub CountedIn : Outcome Tables → (ends₀ bytes₀ : List ℕ) → (before : RowOutputs) → (counts₀ ends bytes : List ℕ) → (after : RowOutputs) → (counts : List ℕ) → Answer → Type 0
CountedIn o ends₀ bytes₀ before counts₀ ends bytes after counts (Ok u) =
    Leaves o 0 ends₀ bytes₀ before.sections.now before.places.now before.symbols.now counts₀ ends bytes after.sections.now after.places.now after.symbols.now counts
CountedIn o ends₀ bytes₀ before counts₀ ends bytes after counts (Err e) = (o ≡ refused e.number e.section e.address) × (counts ≡ counts₀)

-- the outputs are still those that were lent, of the same lengths
pub record SameRows (before after : RowOutputs) : Type 0 where
  pub sections : after.sections.ghost_name ≡ before.sections.ghost_name
  pub places : after.places.ghost_name ≡ before.places.ghost_name
  pub symbols : after.symbols.ghost_name ≡ before.symbols.ghost_name
  pub sections_size : length after.sections.now ≡ length before.sections.now
  pub places_size : length after.places.now ≡ length before.places.now
  pub symbols_size : length after.symbols.now ≡ length before.symbols.now
