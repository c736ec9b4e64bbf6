-- The lent tables as the walk sees them, and the pieces that an output table holds: its first records, read from its bytes.
use Rattle.std.specs.Prelude.{ℕ, ◌/◌, ◌≡◌, List, length}
use Rattle.lists.specs.Outcome.{accepted}
use Rattle.obj.specs.Records.{stage_places}
use Rattle.obj.specs.declared.Reloc.{Reloc}
use Rattle.tables.specs.Tables.{main_ceilings}
use Rattle.tables.specs.Records.{image_places_of}
use Rattle.stage_tables.specs.StageTables.{stage_sections, stage_splits, image_check, symbols_check, splits_check}
use Rattle.sections.specs.Image.{image_of}
use Rattle.sections.specs.Sections.{sections_of}
use Rattle.pieces.specs.declared.Piece.{Piece}
use Rattle.pieces.specs.declared.Counts.{Counts}
use Rattle.walk.specs.Walk.{Input, Output, walk}

-- what the entry is lent, and how it reads names, relocations and units
pub record Lent : Type 0 where
  -- how many names, their bytes, where each starts, and how long it is
  pub names : ℕ
  pub name_bytes : List ℕ
  pub name_places : List ℕ
  pub name_lengths : List ℕ
  -- section records, the places of their bytes in the image, and the image
  pub sections : List ℕ
  pub places : List ℕ
  pub image : List ℕ
  pub symbols : List ℕ
  pub reloc : ℕ → Reloc
  pub relocs : ℕ
  pub splits : List ℕ
  pub units : List ℕ
  pub room : Counts

abbrev pub input_in : Lent → Input
input_in t = record {
  image = image_of t.symbols (stage_places 20 (length t.symbols / 20)) t.name_bytes t.name_places t.name_lengths;
  sections = sections_of t.sections (stage_places 15 (length t.sections / 15)) t.image (image_places_of t.places);
  reloc = t.reloc;
  relocs = t.relocs;
  splits = stage_splits t.splits;
  units = t.units;
  room = t.room;
}

-- what the theorems ask of a piece: where it lies, and its alignment
pub record Spot : Type 0 where
  pub section : ℕ
  pub address : ℕ
  pub size : ℕ
  pub alignment : ℕ

abbrev pub spot : Piece → Spot
spot p = record { section = p.section; address = p.address; size = p.size; alignment = p.alignment }

-- ---- tables that an entry has accepted

-- the lines of the entry's definition that the theorems rest on: "2 section", "3 symbol", "5 partial split"
pub record Passed (t : Lent) : Type 0 where
  pub of_sections : image_check main_ceilings.sections t.name_lengths t.places (length t.image) t.sections ≡ accepted tt
  pub of_symbols : symbols_check main_ceilings.symbols t.names (stage_sections t.sections) t.symbols ≡ accepted tt
  pub of_splits : splits_check main_ceilings.splits t.name_lengths (stage_sections t.sections) t.splits ≡ accepted tt

-- .. and the walk
pub record Accepted (t : Lent) (out : Output) : Type 0 where
  pub tables : Passed t
  pub walked : walk (input_in t) ≡ accepted out

-- ---- what two entries share

-- the same splits and section heads; symbols, names, relocations, units, places, images and output room are arbitrary
pub record SameTables (t u : Lent) : Type 0 where
  pub heads : stage_sections t.sections ≡ stage_sections u.sections
  pub splits : stage_splits t.splits ≡ stage_splits u.splits
