-- Inside the entry: its definition from the splits on, over what the tables before them leave; what the functions are given, and what they answer, by the structs
-- that hold the tables.
use Rattle.std.specs.Prelude.{ℕ, ◌/◌, ◌≤◌, List, Bool, Result, length}
use Rattle.lists.specs.Outcome.{Outcome, ◌>>◌}
use Rattle.obj.specs.declared.Section.{Section}
use Rattle.obj.specs.declared.Table.{Table}
use Rattle.names.specs.declared.Names.{Names}
use Rattle.lent_tables.specs.declared.StageTables.{StageTables}
use Rattle.tables.specs.Tables.{main_ceilings, AllHeld}
use Rattle.tables.specs.Records.{sections_in}
use Rattle.stage_tables.specs.StageTables.{stage_splits, stage_units, splits_check, units_check}
use Rattle.toposort.specs.Search.{End}
use Rattle.link_graph.specs.Columns.{SectionNames, pointers_in}
use Rattle.order.specs.LinkOrder.{link_order}
use Rattle.order.specs.declared.Unlinked.{Unlinked}
use Rattle.order.specs.Columns.{Resolves}
use Rattle.entry_resolve_link_order.specs.Entry.{resolve_of}

-- from kind 5 on, over names and sections that passed
unfoldable pub from_splits : (lengths : List ℕ) → (heads : List Section) → (pointers : ℕ → Bool) → (splits us : List ℕ) → (size : ℕ) → Outcome End
from_splits lengths heads pointers splits us size = do
  splits_check main_ceilings.splits lengths heads splits
  units_check main_ceilings.units lengths us
  link_order (record { splits = stage_splits splits; units = stage_units us; pointers = pointers }) (size / 8)

-- .. by the structs that hold the tables
abbrev pub from_splits_in : (heads : Table) → Names → StageTables → (size : ℕ) → Outcome End
from_splits_in heads n t size =
    from_splits n.lengths.now (sections_in heads.bytes.now heads.places.now) (pointers_in heads.bytes.now heads.places.now n.bytes.now n.places.now n.lengths.now) t.splits.now t.units.now size

-- the whole definition, of the tables that are lent together
abbrev pub resolve_in : StageTables → (size : ℕ) → Outcome End
resolve_in t size = resolve_of t.name_ends.now t.name_bytes.now t.sections.now t.splits.now t.units.now size

-- what is answered of their splits and units, and what is left in the unit table
abbrev pub ResolvesIn : StageTables → Outcome End → Result ℕ Unlinked → (before after : List ℕ) → Type 0
ResolvesIn t o r before after = Resolves (stage_splits t.splits.now) (stage_units t.units.now) o r before after

-- ---- what the tables before leave

-- the sections' heads are there, and so are their names; no more than 4,096 names
pub record SectionsTaken (heads head_places name_bytes name_places lengths : List ℕ) : Type 0 where
  pub held : AllHeld 15 heads head_places
  pub sections : SectionNames heads head_places name_bytes name_places lengths
  pub few : length lengths ≤ 4096

abbrev pub SectionsTakenIn : (heads : Table) → Names → Type 0
SectionsTakenIn heads n = SectionsTaken heads.bytes.now heads.places.now n.bytes.now n.places.now n.lengths.now
