-- The entry `create_gap_splits` on its lent bytes: what it answers for every input, and the name table and the split table that it gives back. "stage tables by kind ..,
-- each for 1, 2, then its kind's number", then the gaps (create_gap_splits/specs/Create.antt). "A shorter lent output table has its own length as ceiling; more input
-- splits or names: 2" (DECISIONS.md, 39): of the names at the first that does not fit, by count or by bytes, before anything else but 1 of their length.
use Rattle.std.specs.Prelude.{ℕ, ◌/◌, ◌≡◌, List, length}
use Rattle.lists.specs.Outcome.{Outcome, ◌>>◌}
use Rattle.obj.specs.Answers.{outcome_word}
use Rattle.obj.specs.Records.{stage_places}
use Rattle.obj.specs.declared.Section.{Section}
use Rattle.obj.specs.declared.Table.{Table}
use Rattle.names.specs.Names.{names_of}
use Rattle.names.specs.declared.Names.{Names}
use Rattle.tables.specs.Tables.{main_ceilings}
use Rattle.tables.specs.Records.{sections_in, image_places_of}
use Rattle.name_table.specs.NameTable.{names_check, stage_names}
use Rattle.name_table.specs.Stored.{stage_lengths, name_starts}
use Rattle.stage_tables.specs.StageTables.{stage_sections, stage_splits, image_check, symbols_check, splits_check}
use Rattle.stage_names.specs.StageNames.{names_room, bytes_room, fit_check}
use Rattle.sections.specs.Image.{image_of}
use Rattle.sections.specs.Sections.{Sections, sections_of}
use Rattle.stage_splits.specs.StageSplits.{room_of}
use Rattle.merge.specs.Merge.{given}
use Rattle.gap_splits.specs.Entering.{Filled, Ceilings}
use Rattle.gap_splits.specs.Answers.{ceilings}
use Rattle.names.specs.Listed.{names_in}
use Rattle.create_gap_splits.specs.Create.{gaps_filled}
use Rattle.stage_gaps.specs.StageGaps.{filled_of, Laid, from_splits}
use Rattle.stage_gaps.specs.declared.GapOutputs.{GapOutputs}
use Rattle.lent_tables.specs.declared.StageTables.{StageTables}

-- what the entry gives for outputs of so many bytes; `places` has the places of the sections' bytes in the image
unfoldable pub gap_splits_of : (ends bytes sections places image symbols splits : List ℕ) → (ends_size bytes_size size : ℕ) → Outcome Filled
gap_splits_of ends bytes sections places image symbols splits ends_size bytes_size size = do
  -- "more input splits or names: 2"
  fit_check (names_room ends_size) (bytes_room bytes_size) ends
  -- "1 name"
  names_check main_ceilings.names ends bytes
  -- "2 section", with its bytes
  image_check main_ceilings.sections (stage_lengths ends bytes) places (length image) sections
  -- "3 symbol"
  symbols_check main_ceilings.symbols (length ends / 2) (stage_sections sections) symbols
  -- "5 partial split"; "A shorter lent output table has its own length as ceiling; more input splits ..: 2"
  splits_check (room_of size) (stage_lengths ends bytes) (stage_sections sections) splits
  -- "**Gap.** .."
  gaps_filled (image_of symbols (stage_places 20 (length symbols / 20)) bytes (name_starts ends (length ends / 2)) (stage_lengths ends bytes))
      (sections_of sections (stage_places 15 (length sections / 15)) image (image_places_of places))
      (given (stage_sections sections) (room_of size))
      (record { names = names_room ends_size; bytes = bytes_room bytes_size })
      (record { names = stage_names ends bytes (length ends / 2); rows = stage_splits splits })

-- the answer of the entry, and every byte of its outputs
pub record Leaves (o : Outcome Filled) (ends_size bytes_size size counts_size answer : ℕ) (out_ends out_bytes out counts : List ℕ) : Type 0 where
  pub answered : answer ≡ outcome_word o
  pub laid_out : Laid (filled_of o) ends_size bytes_size size counts_size out_ends out_bytes out counts

-- .. of outputs that were `before` and are `after`
abbrev pub LeavesIn : Outcome Filled → (answer : ℕ) → (before after : GapOutputs) → Type 0
LeavesIn o answer before after =
    Leaves o (length before.ends.now) (length before.bytes.now) (length before.splits.now) (length before.counts.now) answer
    after.ends.now after.bytes.now after.splits.now after.counts.now

-- ---- inside the entry

-- what it gives for the lent tables and outputs
abbrev pub tables_outcome : StageTables → GapOutputs → Outcome Filled
tables_outcome lent outputs =
    gap_splits_of lent.name_ends.now lent.name_bytes.now lent.sections.now lent.section_places.now lent.image.now lent.symbols.now lent.splits.now
    (length outputs.ends.now) (length outputs.bytes.now) (length outputs.splits.now)

-- from the symbols on, over sections that passed
unfoldable pub from_symbols : (name_bytes name_places name_lengths : List ℕ) → (heads : List Section) → Sections → Ceilings → (symbols splits : List ℕ) → (size : ℕ) → Outcome Filled
from_symbols name_bytes name_places name_lengths heads sections room symbols splits size = do
  symbols_check main_ceilings.symbols (length name_lengths) heads symbols
  from_splits name_lengths heads (image_of symbols (stage_places 20 (length symbols / 20)) name_bytes name_places name_lengths) sections room
      (names_of name_bytes name_places name_lengths (length name_places)) splits size

-- .. over lent tables, where so many names of so many bytes may be added
abbrev pub symbols_outcome : Names → (heads image : Table) → StageTables → (most most_bytes : ℕ) → GapOutputs → Outcome Filled
symbols_outcome names heads image lent most most_bytes outputs =
    from_symbols names.bytes.now names.places.now names.lengths.now (sections_in heads.bytes.now heads.places.now)
    (sections_of heads.bytes.now heads.places.now image.bytes.now image.places.now) (ceilings (names_in names) most most_bytes)
    lent.symbols.now lent.splits.now (length outputs.splits.now)

-- from the sections on, over names that passed
unfoldable pub from_sections : (name_bytes name_places name_lengths sections places image symbols splits : List ℕ) → Ceilings → (size : ℕ) → Outcome Filled
from_sections name_bytes name_places name_lengths sections places image symbols splits room size = do
  image_check main_ceilings.sections name_lengths places (length image) sections
  from_symbols name_bytes name_places name_lengths (stage_sections sections)
      (sections_of sections (stage_places 15 (length sections / 15)) image (image_places_of places)) room symbols splits size

-- .. over lent tables
abbrev pub sections_outcome : Names → StageTables → (most most_bytes : ℕ) → GapOutputs → Outcome Filled
sections_outcome names lent most most_bytes outputs =
    from_sections names.bytes.now names.places.now names.lengths.now lent.sections.now lent.section_places.now lent.image.now
    lent.symbols.now lent.splits.now (ceilings (names_in names) most most_bytes) (length outputs.splits.now)
