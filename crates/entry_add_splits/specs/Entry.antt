-- The entry `add_splits` on its lent bytes: the tables that it takes, each for 1, 2, then its kind's number, and then the merge of the partial list into the split
-- table; what it answers and leaves for every input (`Leaves` of stage_splits).
-- "The merge's partial list is checked as records"; the split table comes before it (DECISIONS.md, 10), and has the output's length as its ceiling (39).
use Rattle.std.specs.Prelude.{ℕ, List}
use Rattle.lists.specs.Outcome.{Outcome, ◌>>◌}
use Rattle.obj.specs.declared.Section.{Section}
use Rattle.obj.specs.declared.Split.{Split}
use Rattle.tables.specs.Tables.{main_ceilings}
use Rattle.name_table.specs.NameTable.{names_check}
use Rattle.name_table.specs.Stored.{stage_lengths}
use Rattle.stage_tables.specs.StageTables.{stage_sections, stage_partials, stage_splits, sections_check, splits_check, partials_check}
use Rattle.stage_splits.specs.StageSplits.{room_of}
use Rattle.merge.specs.Merge.{given, merge_all}

-- what the entry gives for an output of `size` bytes
unfoldable pub add_splits_of : (ends bytes sections splits partials : List ℕ) → (size : ℕ) → Outcome (List Split)
add_splits_of ends bytes sections splits partials size = do
  -- "1 name"
  names_check main_ceilings.names ends bytes
  -- "2 section"
  sections_check main_ceilings.sections (stage_lengths ends bytes) sections
  -- "5 partial split": the split table; "A shorter lent output table has its own length as ceiling; more input splits ..: 2"
  splits_check (room_of size) (stage_lengths ends bytes) (stage_sections sections) splits
  -- the partial list
  partials_check main_ceilings.splits (stage_lengths ends bytes) partials
  -- "It merges the partial splits in file order", into a table with that room
  merge_all (given (stage_sections sections) (room_of size)) (stage_splits splits) (stage_partials partials)

-- ---- inside the entry: what is left of the definition over what the tables before leave

-- from the split table on
unfoldable pub from_splits : (lengths : List ℕ) → (heads : List Section) → (splits partials : List ℕ) → (room : ℕ) → Outcome (List Split)
from_splits lengths heads splits partials room = do
  splits_check room lengths heads splits
  partials_check main_ceilings.splits lengths partials
  merge_all (given heads room) (stage_splits splits) (stage_partials partials)

-- from the sections on
unfoldable pub from_sections : (lengths sections splits partials : List ℕ) → (room : ℕ) → Outcome (List Split)
from_sections lengths sections splits partials room = do
  sections_check main_ceilings.sections lengths sections
  from_splits lengths (stage_sections sections) splits partials room
