-- The entry `trim_splits` on its lent bytes: what it answers for every input, and the splits that it gives back. "stage tables by kind .., each for 1, 2,
-- then its kind's number", then the trim (trim/specs/Trim.antt). The contract is `Leaves` of stage_splits at this outcome: the word, every byte of the
-- output, and the count.
use Rattle.std.specs.Prelude.{ℕ, ◌/◌, List, length}
use Rattle.lists.specs.Outcome.{Outcome, ◌>>◌}
use Rattle.obj.specs.Records.{stage_places}
use Rattle.obj.specs.declared.Section.{Section}
use Rattle.obj.specs.declared.Split.{Split}
use Rattle.tables.specs.Tables.{main_ceilings}
use Rattle.tables.specs.Records.{image_places_of}
use Rattle.name_table.specs.NameTable.{names_check}
use Rattle.name_table.specs.Stored.{stage_lengths, name_starts}
use Rattle.stage_tables.specs.StageTables.{stage_sections, stage_splits, image_check, symbols_check, splits_check}
use Rattle.sections.specs.Image.{Image, image_of}
use Rattle.sections.specs.Sections.{Sections, sections_of}
use Rattle.stage_splits.specs.StageSplits.{room_of}
use Rattle.trim.specs.Trim.{trimmed}

-- what the entry gives for an output of `size` bytes; `places` has the places of the sections' bytes in the image
unfoldable pub trim_of : (ends bytes sections places image symbols splits : List ℕ) → (size : ℕ) → Outcome (List Split)
trim_of ends bytes sections places image symbols splits size = do
  -- "1 name"
  names_check main_ceilings.names ends bytes
  -- "2 section", with its bytes
  image_check main_ceilings.sections (stage_lengths ends bytes) places (length image) sections
  -- "3 symbol"
  symbols_check main_ceilings.symbols (length ends / 2) (stage_sections sections) symbols
  -- "5 partial split"; "A shorter lent output table has its own length as ceiling; more input splits ..: 2"
  splits_check (room_of size) (stage_lengths ends bytes) (stage_sections sections) splits
  -- "**Trim.** .."
  trimmed (image_of symbols (stage_places 20 (length symbols / 20)) bytes (name_starts ends (length ends / 2)) (stage_lengths ends bytes))
      (sections_of sections (stage_places 15 (length sections / 15)) image (image_places_of places))
      (stage_splits splits)

-- ---- inside the entry: the tables from one kind on, over what the tables before it leave

-- from the splits on, over symbols that passed
unfoldable pub from_splits : (lengths : List ℕ) → (heads : List Section) → Image → Sections → (splits : List ℕ) → (size : ℕ) → Outcome (List Split)
from_splits lengths heads g sections splits size = do
  splits_check (room_of size) lengths heads splits
  trimmed g sections (stage_splits splits)

-- from the symbols on, over sections that passed
unfoldable pub from_symbols : (name_bytes name_places name_lengths : List ℕ) → (heads : List Section) → Sections → (symbols splits : List ℕ) → (size : ℕ) → Outcome (List Split)
from_symbols name_bytes name_places name_lengths heads sections symbols splits size = do
  symbols_check main_ceilings.symbols (length name_lengths) heads symbols
  from_splits name_lengths heads (image_of symbols (stage_places 20 (length symbols / 20)) name_bytes name_places name_lengths) sections splits size

-- from the sections on, over names that passed. As in entry_create_gap_splits, whose stage has ceilings for the names that it adds and another outcome: one definition for both
-- would take what follows the sections as an argument, and each would still be named to be unfolded.
unfoldable pub from_sections : (name_bytes name_places name_lengths sections places image symbols splits : List ℕ) → (size : ℕ) → Outcome (List Split)
from_sections name_bytes name_places name_lengths sections places image symbols splits size = do
  image_check main_ceilings.sections name_lengths places (length image) sections
  from_symbols name_bytes name_places name_lengths (stage_sections sections)
      (sections_of sections (stage_places 15 (length sections / 15)) image (image_places_of places)) symbols splits size
