-- The entry `update_common_splits` on its lent bytes: what it answers for every input, and the splits that it gives back. "stage tables by kind .., each for 1,
-- 2, then its kind's number", then the stage (common/specs/Common.antt). The contract is `Leaves` of stage_splits at this outcome: the word, every byte of the
-- output, and the count.
use Rattle.std.specs.Prelude.{ℕ, ◌/◌, List, [], Bool, not, eqb, length, get_or}
use Rattle.lists.specs.Outcome.{Outcome, ◌>>◌}
use Rattle.obj.specs.Records.{stage_places}
use Rattle.obj.specs.declared.Section.{Section}
use Rattle.obj.specs.declared.Split.{Split}
use Rattle.obj.specs.Nothing.{no_section}
use Rattle.names.specs.Fixed.{is_bss}
use Rattle.tables.specs.Tables.{main_ceilings}
use Rattle.name_table.specs.NameTable.{stage_names, names_check}
use Rattle.name_table.specs.Stored.{stage_lengths}
use Rattle.stage_tables.specs.StageTables.{stage_sections, stage_splits, sections_check, splits_check}
use Rattle.stage_splits.specs.StageSplits.{room_of}
use Rattle.common.specs.Common.{bss_sections, common_of}
use Rattle.common.specs.Sections.{bss_in}

-- section k is named `.bss`
abbrev pub stage_bss : (ends bytes sections : List ℕ) → ℕ → Bool
stage_bss ends bytes sections k = is_bss (get_or (stage_names ends bytes (length ends / 2)) (get_or (stage_sections sections) k no_section).name [])

-- what the entry gives for an output of `size` bytes
unfoldable pub update_of : (ends bytes sections splits : List ℕ) → (has_start start size : ℕ) → Outcome (List Split)
update_of ends bytes sections splits has_start start size = do
  -- "1 name"
  names_check main_ceilings.names ends bytes
  -- "2 section"
  sections_check main_ceilings.sections (stage_lengths ends bytes) sections
  -- "5 partial split"; "A shorter lent output table has its own length as ceiling; more input splits ..: 2"
  splits_check (room_of size) (stage_lengths ends bytes) (stage_sections sections) splits
  -- "**Common.** .."; `has_start` 0 is none, anything else a start (DECISIONS.md, 78)
  common_of (not (eqb has_start 0)) start (bss_sections (stage_bss ends bytes sections) (length sections / 15)) (stage_splits splits)

-- ---- inside the entry: the tables from one kind on, over what the tables before it leave

-- from the splits on; `bss` are the sections named `.bss`
unfoldable pub from_splits : (lengths : List ℕ) → (sections : List Section) → (bss splits : List ℕ) → (given : Bool) → (start size : ℕ) → Outcome (List Split)
from_splits lengths sections bss splits given start size = do
  splits_check (room_of size) lengths sections splits
  common_of given start bss (stage_splits splits)

-- from the sections on, with the names in columns
unfoldable pub from_sections : (name_bytes name_places name_lengths sections splits : List ℕ) → (given : Bool) → (start size : ℕ) → Outcome (List Split)
from_sections name_bytes name_places name_lengths sections splits given start size = do
  sections_check main_ceilings.sections name_lengths sections
  from_splits name_lengths (stage_sections sections) (bss_in name_bytes name_places name_lengths sections (stage_places 15 (length sections / 15))) splits given start size
