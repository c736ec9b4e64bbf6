-- From the splits on: the definition of `split_obj` over what the tables before leave; what the functions are given, and what they answer.
use Rattle.std.specs.Prelude.{ℕ, ◌/◌, ◌≤◌, ◌<◌, ◌≡◌, List, length}
use Rattle.lists.specs.Outcome.{Outcome, ◌>>◌}
use Rattle.obj.specs.Records.{stage_places}
use Rattle.std.specs.Prelude.{Result}
use Rattle.obj.specs.declared.Refusal.{Refusal}
use Rattle.obj.specs.declared.Section.{Section}
use Rattle.obj.specs.declared.Reloc.{Reloc}
use Rattle.obj.specs.declared.Split.{Split}
use Rattle.obj.specs.declared.Table.{Table}
use Rattle.tables.specs.Records.{sections_in}
use Rattle.sections.specs.declared.Obj.{Obj}
use Rattle.tables.specs.Tables.{main_ceilings, AllHeld}
use Rattle.stage_tables.specs.StageTables.{stage_splits, splits_check, units_check}
use Rattle.sections.specs.Image.{Image}
use Rattle.sections.specs.Sections.{Sections, Kept}
use Rattle.splits.specs.Columns.{Columns, row_at}
use Rattle.relocs.specs.Relocs.{reloc_of, Whole, Rising}
use Rattle.units.specs.Units.{unit_names}
use Rattle.pieces.specs.declared.Counts.{Counts}
use Rattle.pieces.specs.declared.lent.PieceTables.{PieceTables}
use Rattle.pieces.specs.Tables.{SameLent}
use Rattle.walk.specs.Walk.{Output, walk}
use Rattle.walk.specs.Giving.{input_of, gave_meaning}
use Rattle.walk.specs.Steps.{Asked}

-- ---- the definition, from one table on

abbrev pub walk_of : Image → Sections → (reloc : ℕ → Reloc) → (relocs : ℕ) → List Split → (units : List ℕ) → (room : Counts) → Outcome Output
walk_of g sections reloc relocs splits units room = walk (input_of g sections reloc relocs splits units room)

-- from the units on, over splits that passed
unfoldable pub from_units : (lengths : List ℕ) → Image → Sections → (reloc : ℕ → Reloc) → (relocs : ℕ) → List Split → (units : List ℕ) → (room : Counts) → Outcome Output
from_units lengths g sections reloc relocs splits units room = do
  units_check main_ceilings.units lengths units
  walk_of g sections reloc relocs splits (unit_names units (stage_places 8 (length units / 8))) room

-- from the splits on, over relocations that passed
unfoldable pub from_splits : (lengths : List ℕ) → (heads : List Section) → Image → Sections → (reloc : ℕ → Reloc) → (relocs : ℕ) → (splits units : List ℕ) → (room : Counts) → Outcome Output
from_splits lengths heads g sections reloc relocs splits units room = do
  splits_check main_ceilings.splits lengths heads splits
  from_units lengths g sections reloc relocs (stage_splits splits) units room

-- ---- what is answered

abbrev pub none : Counts
none = record { pieces = 0; symbols = 0; relocs = 0 }

-- the outcome that an answer means, over what is in the output tables; after a refusal they are still to be cleared
pub record Gives (o : Outcome Output) (before after : PieceTables) (r : Result (Unit {0}) Refusal) : Type 0 where
  pub is : gave_meaning after r ≡ o
  pub lent : SameLent before after

-- ---- what the functions are given

-- the sections that passed
pub record Headed (heads head_places image image_places name_places : List ℕ) : Type 0 where
  pub all : AllHeld 15 heads head_places
  pub kept : Kept heads head_places image image_places name_places

-- .. by the tables that hold them: symbols in order with their names, sections with their names and bytes
abbrev pub AskedIn : Obj → Type 0
AskedIn o = Asked o.symbols.bytes.now o.symbols.places.now o.order.now o.names.bytes.now o.names.places.now o.names.lengths.now

abbrev pub HeadedIn : (heads image : Table) → (name_places : List ℕ) → Type 0
HeadedIn heads image name_places = Headed heads.bytes.now heads.places.now image.bytes.now image.places.now name_places

-- the sections' records
abbrev pub heads_in : (heads : Table) → List Section
heads_in heads = sections_in heads.bytes.now heads.places.now

-- the relocations that passed
pub record Relocated (relocs reloc_places : List ℕ) : Type 0 where
  pub whole : Whole relocs reloc_places
  pub rising : Rising (reloc_of relocs reloc_places) (length reloc_places)
  pub few : length reloc_places ≤ 4096

-- the splits that passed, in columns: each one's unit name is there
pub record Rowed (c : Columns) (rows names : ℕ) : Type 0 where
  pub named : (i : ℕ) → i < rows → (row_at c i).unit < names

-- the tables that passed, with no more names and symbols than any stage takes
pub record Passed (obj : Obj) (image relocs : Table) : Type 0 where
  pub asked : AskedIn obj
  pub headed : HeadedIn obj.heads image obj.names.places.now
  pub relocated : Relocated relocs.bytes.now relocs.places.now
  pub few_names : length obj.names.lengths.now ≤ 4096
  pub few_symbols : length obj.symbols.places.now ≤ 4096

-- lent columns for the units, and for a number of each name
pub record UnitScratch (places numbers : List ℕ) : Type 0 where
  pub places_long : length places ≡ 1024
  pub numbers_long : length numbers ≡ 4096
