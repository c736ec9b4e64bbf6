-- What a split gives to the lent output tables: they are read as the lists of the definition, `output_of`, and the answer means an outcome, `gave_meaning`. On a
-- refusal the tables may hold anything.
use Rattle.std.specs.Prelude.{ℕ, ◌≤◌, ◌<◌, ◌≡◌, List, [], ◌∷◌, ◌++◌, true, ◌||◌, ltb, length, take, drop, Result, Ok, Err}
use Rattle.lists.specs.Outcome.{Outcome, accepted, refused}
use Rattle.obj.specs.Records.{Held}
use Rattle.obj.specs.declared.Refusal.{Refusal}
use Rattle.obj.specs.declared.Section.{Section}
use Rattle.obj.specs.declared.Reloc.{Reloc}
use Rattle.obj.specs.declared.Split.{Split}
use Rattle.sections.specs.Image.{Image}
use Rattle.sections.specs.Sections.{Sections, head_of}
use Rattle.pieces.specs.declared.Piece.{Piece}
use Rattle.pieces.specs.declared.PieceReloc.{PieceReloc}
use Rattle.pieces.specs.declared.lent.PieceTables.{PieceTables}
use Rattle.pieces.specs.Pieces.{pieces_in, symbols_in, relocs_in}
use Rattle.pieces.specs.Tables.{pieces_of, relocs_of as relocs_made, SameSymbols, SameLent}
use Rattle.pieces.specs.Questions.{count_of}
use Rattle.piece_columns.specs.Columns.{CountedIn}
use Rattle.relocs.specs.Relocs.{reloc_of, relocs_of, Whole, Rising}
use Rattle.pieces.specs.declared.Counts.{Counts}
use Rattle.walk.specs.Walk.{Input, Output, piece_of, add_relocs, split_relocs, on_aligned}
use Rattle.walk.specs.Adding.{Entries}
use Rattle.walk.specs.declared.Full.{Full}

-- ---- the input and the output of the walk, of their parts

abbrev pub input_of : Image → Sections → (reloc : ℕ → Reloc) → (relocs : ℕ) → List Split → (units : List ℕ) → (room : Counts) → Input
input_of image sections reloc relocs splits units room = record {
  image = image;
  sections = sections;
  reloc = reloc;
  relocs = relocs;
  splits = splits;
  units = units;
  room = room;
}

-- the records that the lent tables hold: pieces, piece symbols, piece relocations
abbrev pub output_in : (pieces entries offsets : List ℕ) → (made : Counts) → Output
output_in pieces entries offsets made = record {
  pieces = pieces_in pieces made.pieces;
  symbols = symbols_in entries made.symbols;
  relocs = relocs_in offsets made.relocs;
}

abbrev pub output_of : PieceTables → Output
output_of t = output_in t.pieces.now t.symbols.now t.relocs.now t.made

-- what an answer means
abbrev pub gave_meaning : PieceTables → Result (Unit {0}) Refusal → Outcome Output
gave_meaning t (Ok u) = accepted (output_of t)
gave_meaning t (Err r) = refused r.number r.section r.address

-- ---- what is asked of the tables

-- `part` are the numbers of section n's relocations
pub record SectionRelocs (relocs reloc_places part : List ℕ) (n : ℕ) : Type 0 where
  pub whole : Whole relocs reloc_places
  pub rising : Rising (reloc_of relocs reloc_places) (length reloc_places)
  pub is : part ≡ relocs_of (reloc_of relocs reloc_places) (length reloc_places) n
  pub few : length reloc_places ≤ 4096

-- section n's record can be read, and the split starts at or above its start
pub record Sided (heads head_places : List ℕ) (n : ℕ) (s : Split) : Type 0 where
  pub held : Held 15 heads head_places n
  pub few : n < 65535
  pub low : (head_of heads head_places n).address ≤ s.start

-- the columns beside the output tables in one: the chains of the entries, then the counts of the units
unfoldable pub chains_in : List ℕ → List ℕ
chains_in scratch = take 8192 scratch

unfoldable pub counts_in : List ℕ → List ℕ
counts_in scratch = drop 8192 scratch

-- the columns beside the output tables are those of what they hold
pub record Beside (symbols : ℕ) (scratch : List ℕ) (t : PieceTables) : Type 0 where
  pub counted : CountedIn (counts_in scratch) t
  pub entered : Entries symbols (chains_in scratch) t
  pub most_pieces : t.room.pieces ≤ 1024
  pub most_relocs : t.room.relocs ≤ 4096
  pub long : 8192 ≤ length scratch

-- ---- what is given

-- the pieces with that of the split, and the piece relocations with those of the split
abbrev pub pieces_with : (head : Section) → (n unit alignment : ℕ) → Split → List Piece → List Piece
pieces_with head n unit alignment s pieces = pieces ++ (piece_of head n unit (count_of unit pieces) alignment s ∷ [])

abbrev pub relocs_with : (reloc : ℕ → Reloc) → (count n : ℕ) → Split → (place : ℕ) → List PieceReloc → List PieceReloc
relocs_with reloc count n s place relocs = add_relocs reloc place s.start relocs (split_relocs reloc count n s)

pub record PieceMade (wanted : List Piece) (wanted-relocs : List PieceReloc) (counts : List ℕ) (before after : PieceTables) : Type 0 where
  pub is : pieces_of after ≡ wanted
  pub relocs_are : relocs_made after ≡ wanted-relocs
  pub symbols : SameSymbols before after
  pub counted : CountedIn counts after
  pub lent : SameLent before after

abbrev pub PieceGives : (wanted : List Piece) → (wanted-relocs : List PieceReloc) → (counts : List ℕ) → (before after : PieceTables) → Result (Unit {0}) Full → Type 0
PieceGives wanted wanted-relocs counts before after (Ok u) = PieceMade wanted wanted-relocs counts before after
PieceGives wanted wanted-relocs counts before after (Err e) =
    ((ltb before.room.relocs (length wanted-relocs) || ltb before.room.pieces (length wanted)) ≡ true) × SameLent before after

-- what is known of the columns after an answer
abbrev pub Besides : (symbols : ℕ) → (scratch : List ℕ) → PieceTables → Result (Unit {0}) Refusal → Type 0
Besides symbols scratch t (Ok u) = Beside symbols scratch t
Besides symbols scratch t (Err r) = Unit {0}

-- the split has given what the definition says, whatever the other splits, the units and the sections' bytes are
pub record GivesOut (image : Image) (head : ℕ → Section) (reloc : ℕ → Reloc) (relocs n unit alignment : ℕ) (s : Split) (scratch : List ℕ) (before after : PieceTables)
    (r : Result (Unit {0}) Refusal) : Type 0 where
  pub is : (count : ℕ) (bytes : ℕ → List ℕ) (splits : List Split) (units : List ℕ)
      → on_aligned (input_of image (record { count = count; head = head; bytes = bytes }) reloc relocs splits units before.room) n s.start unit alignment s (output_of before)
      ≡ gave_meaning after r
  pub beside : Besides image.count scratch after r
  pub lent : SameLent before after
