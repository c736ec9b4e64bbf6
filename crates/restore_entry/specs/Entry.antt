-- A call of the entry `split_obj`: what it is lent, and how its definition reads that. The theorems of proofs/Entry.antt speak of nothing but these bytes, the
-- answer, and the bytes of the outputs.
use Rattle.std.specs.Prelude.{ℕ, ◌/◌, ◌<◌, ◌≡◌, List, length}
use Rattle.lists.specs.Outcome.{Outcome, accepted}
use Rattle.obj.specs.Records.{stage_places}
use Rattle.tables.specs.Tables.{main_ceilings}
use Rattle.tables.specs.Records.{image_places_of, bytes_cut}
use Rattle.name_table.specs.NameTable.{names_check}
use Rattle.name_table.specs.Stored.{stage_lengths, name_starts}
use Rattle.stage_tables.specs.StageTables.{stage_sections, image_check, symbols_check, relocs_check, splits_check, units_check}
use Rattle.relocs.specs.Relocs.{reloc_of}
use Rattle.units.specs.Units.{unit_names}
use Rattle.pieces.specs.declared.Piece.{Piece}
use Rattle.pieces.specs.Pieces.{pieces_in}
use Rattle.walk.specs.Walk.{Input, Output}
use Rattle.restore.specs.Nobits.{as_data}
use Rattle.stage_walk.specs.Room.{room_in}
use Rattle.entry_split_obj.specs.Entry.{Sizes, split_obj_of, output_of, Leaves}
use Rattle.restore_entry.specs.Tables.{Lent, input_in}

pub record Call : Type 0 where
  pub ends : List ℕ
  pub bytes : List ℕ
  pub sections : List ℕ
  pub places : List ℕ
  pub image : List ℕ
  pub symbols : List ℕ
  pub relocs : List ℕ
  pub splits : List ℕ
  pub units : List ℕ
  -- how many bytes are lent for each output
  pub sizes : Sizes

-- what the entry's definition gives for it
abbrev pub outcome : Call → Outcome Output
outcome c =
    split_obj_of c.ends c.bytes c.sections c.places c.image c.symbols c.relocs c.splits c.units
    (room_in c.sizes.pieces c.sizes.symbols c.sizes.relocs)

abbrev pub lent : Call → Lent
lent c = record {
  names = length c.ends / 2;
  name_bytes = c.bytes;
  name_places = name_starts c.ends (length c.ends / 2);
  name_lengths = stage_lengths c.ends c.bytes;
  sections = c.sections;
  places = c.places;
  image = c.image;
  symbols = c.symbols;
  reloc = reloc_of c.relocs (stage_places 23 (length c.relocs / 23));
  relocs = length c.relocs / 23;
  splits = c.splits;
  units = unit_names c.units (stage_places 8 (length c.units / 8));
  room = room_in c.sizes.pieces c.sizes.symbols c.sizes.relocs;
}

-- no table check refuses: a line for each table, as in the entry's definition
pub record Checks (c : Call) : Type 0 where
  pub of_names : names_check main_ceilings.names c.ends c.bytes ≡ accepted tt
  pub of_sections : image_check main_ceilings.sections (stage_lengths c.ends c.bytes) c.places (length c.image) c.sections ≡ accepted tt
  pub of_symbols : symbols_check main_ceilings.symbols (length c.ends / 2) (stage_sections c.sections) c.symbols ≡ accepted tt
  pub of_relocs : relocs_check main_ceilings.relocations (stage_sections c.sections) (length c.symbols / 20) c.relocs ≡ accepted tt
  pub of_splits : splits_check main_ceilings.splits (stage_lengths c.ends c.bytes) (stage_sections c.sections) c.splits ≡ accepted tt
  pub of_units : units_check main_ceilings.units (stage_lengths c.ends c.bytes) c.units ≡ accepted tt

-- ---- two calls that differ in their sections

-- the call with other section records, another image, and other places of the sections' bytes in it
abbrev pub other_sections : Call → (sections places image : List ℕ) → Call
other_sections c sections places image = record {
  ends = c.ends;
  bytes = c.bytes;
  sections = sections;
  places = places;
  image = image;
  symbols = c.symbols;
  relocs = c.relocs;
  splits = c.splits;
  units = c.units;
  sizes = c.sizes;
}

-- section n lies in both images or in neither, and has the same bytes in both
pub record SameBytes (c d : Call) (n : ℕ) : Type 0 where
  pub lies :
      bytes_cut (image_places_of c.places) (length c.image) n ((input_in (lent c)).sections.head n)
      ≡ bytes_cut (image_places_of d.places) (length d.image) n ((input_in (lent c)).sections.head n)
  pub bytes : (input_in (lent c)).sections.bytes n ≡ (input_in (lent d)).sections.bytes n

-- the second call's sections are those of the first, but for section n, which is data whose bytes are zeros
pub record AsData (c d : Call) (n : ℕ) : Type 0 where
  pub count : (input_in (lent c)).sections.count ≡ (input_in (lent d)).sections.count
  pub heads : (m : ℕ) → m < (input_in (lent c)).sections.count → (as_data (input_in (lent c)).sections n).head m ≡ (input_in (lent d)).sections.head m
  pub bytes : (m : ℕ) → m < (input_in (lent c)).sections.count → (as_data (input_in (lent c)).sections n).bytes m ≡ (input_in (lent d)).sections.bytes m

-- ---- a call that is accepted

-- a call whose answer is 0, and what it leaves in its outputs: as the entry's contract says
pub record Run : Type 0 where
  pub call : Call
  pub pieces : List ℕ
  pub entries : List ℕ
  pub offsets : List ℕ
  pub counts : List ℕ
  pub leaves : Leaves (outcome call) call.sizes 0 pieces entries offsets counts

-- the tables as its walk sees them
abbrev pub input : Run → Input
input r = input_in (lent r.call)

-- how many pieces there are: the counts say it where two bytes are lent for it (`counted` of proofs/Entry.antt)
abbrev pub count : Run → ℕ
count r = length (output_of (outcome r.call)).pieces

-- the pieces, read from the bytes of the output table
abbrev pub pieces_of : Run → List Piece
pieces_of r = pieces_in r.pieces (count r)
