-- The entry `split_obj` on its lent bytes: what it answers for every input, and every byte of its outputs. "stage tables by kind .., each for 1, 2, then its
-- kind's number", then the walk (walk/specs/Walk.antt). The contract is `Leaves` at this outcome: the word, the pieces, the piece symbols and the piece
-- relocations, each as records and then zeros, and their counts; all zeros after a refusal (DECISIONS.md, 75).
use Rattle.std.specs.Prelude.{ℕ, ◌/◌, ◌≡◌, List, [], ◌∷◌, length}
use Rattle.lists.specs.Outcome.{Outcome, accepted, refused, ◌>>◌}
use Rattle.lists.specs.Tables.{laid}
use Rattle.obj.specs.Answers.{outcome_word}
use Rattle.obj.specs.Records.{stage_places}
use Rattle.tables.specs.Tables.{main_ceilings}
use Rattle.tables.specs.Records.{image_places_of}
use Rattle.name_table.specs.NameTable.{names_check}
use Rattle.name_table.specs.Stored.{stage_lengths, name_starts}
use Rattle.stage_tables.specs.StageTables.{stage_sections, stage_splits, image_check, symbols_check, relocs_check, splits_check, units_check}
use Rattle.outputs.specs.Outputs.{counts_of}
use Rattle.sections.specs.Image.{Image, image_of}
use Rattle.sections.specs.Sections.{Sections, sections_of}
use Rattle.relocs.specs.Relocs.{reloc_of}
use Rattle.units.specs.Units.{unit_names}
use Rattle.pieces.specs.Pieces.{piece_bytes, symbol_bytes, reloc_bytes, packed}
use Rattle.pieces.specs.declared.Counts.{Counts}
use Rattle.walk.specs.Walk.{Input, Output, nothing, walk}
use Rattle.walk.specs.Giving.{input_of}

-- ---- the tables as the walk sees them; entry_questions has both definitions of its own, since no crate that both list has the names and the sections
abbrev pub image_in : (ends bytes symbols : List ℕ) → Image
image_in ends bytes symbols =
    image_of symbols (stage_places 20 (length symbols / 20)) bytes (name_starts ends (length ends / 2)) (stage_lengths ends bytes)

-- `places` has the places of the sections' bytes in the image
abbrev pub sections_in : (sections places image : List ℕ) → Sections
sections_in sections places image = sections_of sections (stage_places 15 (length sections / 15)) image (image_places_of places)

abbrev pub input_in : (ends bytes sections places image symbols relocs splits units : List ℕ) → (room : Counts) → Input
input_in ends bytes sections places image symbols relocs splits units room =
    input_of (image_in ends bytes symbols) (sections_in sections places image)
    (reloc_of relocs (stage_places 23 (length relocs / 23))) (length relocs / 23) (stage_splits splits)
    (unit_names units (stage_places 8 (length units / 8))) room

-- ---- the entry

unfoldable pub split_obj_of : (ends bytes sections places image symbols relocs splits units : List ℕ) → (room : Counts) → Outcome Output
split_obj_of ends bytes sections places image symbols relocs splits units room = do
  -- "1 name"
  names_check main_ceilings.names ends bytes
  -- "2 section", with its bytes
  image_check main_ceilings.sections (stage_lengths ends bytes) places (length image) sections
  -- "3 symbol"
  symbols_check main_ceilings.symbols (length ends / 2) (stage_sections sections) symbols
  -- "4 relocation"
  relocs_check main_ceilings.relocations (stage_sections sections) (length symbols / 20) relocs
  -- "5 partial split"
  splits_check main_ceilings.splits (stage_lengths ends bytes) (stage_sections sections) splits
  -- "6 unit"
  units_check main_ceilings.units (stage_lengths ends bytes) units
  -- "**Walk.** .."
  walk (input_in ends bytes sections places image symbols relocs splits units room)

-- what an outcome leaves: nothing after a refusal
abbrev pub output_of : Outcome Output → Output
output_of (accepted out) = out
output_of (refused number section address) = nothing

-- how many bytes are lent for each output
pub record Sizes : Type 0 where
  pub pieces : ℕ
  pub symbols : ℕ
  pub relocs : ℕ
  pub counts : ℕ

-- these are in the outputs, records and then zeros, and their numbers in the counts
pub record Laid (out : Output) (sizes : Sizes) (pieces symbols relocs counts : List ℕ) : Type 0 where
  pub pieces_are : pieces ≡ laid sizes.pieces (packed piece_bytes out.pieces)
  pub symbols_are : symbols ≡ laid sizes.symbols (packed symbol_bytes out.symbols)
  pub relocs_are : relocs ≡ laid sizes.relocs (packed reloc_bytes out.relocs)
  pub counted : counts ≡ counts_of sizes.counts (length out.pieces ∷ length out.symbols ∷ length out.relocs ∷ [])

-- the answer of the entry, and every byte of its outputs
pub record Leaves (o : Outcome Output) (sizes : Sizes) (answer : ℕ) (pieces symbols relocs counts : List ℕ) : Type 0 where
  pub said : answer ≡ outcome_word o
  pub left : Laid (output_of o) sizes pieces symbols relocs counts
