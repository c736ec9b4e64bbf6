-- The entry `mend_splits` on its lent bytes: the tables that it takes, each for 1, 2, then its kind's number, and then the mending. What it answers and leaves for
-- every input is `Leaves` of mend_outputs of this outcome.
use Rattle.std.specs.Prelude.{ℕ, ◌/◌, ◌≤◌, ◌≡◌, List, length, take}
use Rattle.lists.specs.Outcome.{Outcome, accepted, ◌>>◌}
use Rattle.obj.specs.declared.Section.{Section}
use Rattle.tables.specs.Tables.{main_ceilings}
use Rattle.name_table.specs.NameTable.{names_check}
use Rattle.name_table.specs.Stored.{stage_lengths}
use Rattle.stage_tables.specs.StageTables.{stage_sections, stage_splits, sections_check, splits_check}
use Rattle.stage_splits.specs.StageSplits.{room_of}
use Rattle.mend.specs.Mend.{section_ends_of, Mended, mend}

-- what the entry gives for an output of `size` bytes and `room` bytes for lines
unfoldable pub mend_splits_of : (ends bytes sections splits : List ℕ) → (size room : ℕ) → Outcome Mended
mend_splits_of ends bytes sections splits size room = do
  -- "1 name"
  names_check main_ceilings.names ends bytes
  -- "2 section"
  sections_check main_ceilings.sections (stage_lengths ends bytes) sections
  -- "5 partial split": the split table; "A shorter lent output table has its own length as ceiling; more input splits ..: 2"
  splits_check (room_of size) (stage_lengths ends bytes) (stage_sections sections) splits
  -- "86, a new end would be 0 or below its start; 80, the lines don't fit, last"
  mend (section_ends_of (stage_sections sections)) room (stage_splits splits)

-- ---- inside the entry: what is left of the definition over what the tables before leave

-- from the split table on
unfoldable pub from_splits : (lengths : List ℕ) → (heads : List Section) → (splits : List ℕ) → (room line-room : ℕ) → Outcome Mended
from_splits lengths heads splits room line-room = do
  splits_check room lengths heads splits
  mend (section_ends_of heads) line-room (stage_splits splits)

-- from the sections on
unfoldable pub from_sections : (lengths sections splits : List ℕ) → (room line-room : ℕ) → Outcome Mended
from_sections lengths sections splits room line-room = do
  sections_check main_ceilings.sections lengths sections
  from_splits lengths (stage_sections sections) splits room line-room

-- what was answered of the names, and their lengths at the front of the column if they were accepted
pub record NamesTaken (answer : Outcome (Unit {0})) (ends bytes lengths : List ℕ) : Type 0 where
  pub said : answer ≡ names_check main_ceilings.names ends bytes
  pub few : answer ≡ accepted tt → length ends / 2 ≤ length lengths
  pub sizes : answer ≡ accepted tt → take (length ends / 2) lengths ≡ stage_lengths ends bytes
