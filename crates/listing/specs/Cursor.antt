-- The listing line by line: a cursor is where the next line begins, and `rest` what of the listing is left there. The first cursor is unit 0 with 0 bytes, where
-- the rest is the listing (`rest-first` of proofs/Rest.antt); each line takes its text off the front of it. `bytes` is the sum of the figures so far.
use Rattle.std.specs.Prelude.{ℕ, ◌+◌, ◌*◌, ◌≤◌, ◌<◌, ◌≡◌, List, [], ◌++◌, Option, Some, None, MatchOption, Bool, true, false, cond, length, get_or, take, drop, eqb, ltb}
use Rattle.obj.specs.declared.Symbol.{Symbol}
use Rattle.obj.specs.declared.Reloc.{Reloc}
use Rattle.pieces.specs.declared.Piece.{Piece}
use Rattle.pieces.specs.declared.PieceSymbol.{PieceSymbol}
use Rattle.pieces.specs.declared.PieceReloc.{PieceReloc}
use Rattle.lines.specs.Lines.{Written, piece_line, sym_line, reloc_line, total_line}
use Rattle.listing.specs.declared.Cursor.{Cursor}
use Rattle.listing.specs.declared.Cursor.TheVariants.{Units, Pieces, Symbols, Relocs, Total, Done}
use Rattle.listing.specs.declared.Line.{Line}
use Rattle.listing.specs.Listing.{Run, figures, pieces_of, symbols_of, relocs_of, piece_lines, sym_lines, reloc_lines, units_lines}

-- ---- what is left

abbrev pub from_total : Run → (bytes : ℕ) → List ℕ
from_total t bytes = total_line (length t.units) (length t.pieces) bytes

unfoldable pub from_unit : Run → (unit bytes : ℕ) → List ℕ
from_unit t unit bytes = units_lines t unit (drop unit t.units) ++ from_total t (bytes + figures t unit (drop unit t.units))

unfoldable pub from_relocs : Run → (unit at bytes : ℕ) → List ℕ
from_relocs t unit at bytes = reloc_lines t (relocs_of t unit (drop at t.relocs)) ++ from_unit t (unit + 1) bytes

unfoldable pub from_symbols : Run → (unit at bytes : ℕ) → List ℕ
from_symbols t unit at bytes = sym_lines t (symbols_of unit (drop at t.symbols)) ++ from_relocs t unit 0 bytes

unfoldable pub from_pieces : Run → (unit at bytes : ℕ) → List ℕ
from_pieces t unit at bytes = piece_lines t (pieces_of unit (drop at t.pieces)) ++ from_symbols t unit 0 bytes

abbrev pub rest : Run → Cursor → List ℕ
rest t (Units unit bytes) = from_unit t unit bytes
rest t (Pieces unit at bytes) = from_pieces t unit at bytes
rest t (Symbols unit at bytes) = from_symbols t unit at bytes
rest t (Relocs unit at bytes) = from_relocs t unit at bytes
rest t (Total bytes) = from_total t bytes
rest t Done = []

-- ---- cursors of a run

-- a figure of at most 1,024 pieces and 4,096 symbols, each below 2^32 bytes, is no more than this; so the sum of 65,535 figures has 64 bits
abbrev pub most : ℕ
most = 21990232550400

pub record Before (units unit bytes : ℕ) : Type 0 where
  pub inside : unit ≤ units
  pub few : bytes ≤ unit * most

pub record Within (units unit bytes : ℕ) : Type 0 where
  pub inside : unit < units
  pub few : bytes ≤ (unit + 1) * most

-- a cursor of a run of so many units
abbrev pub Valid : (units : ℕ) → Cursor → Type 0
Valid units (Units unit bytes) = Before units unit bytes
Valid units (Pieces unit at bytes) = Within units unit bytes
Valid units (Symbols unit at bytes) = Within units unit bytes
Valid units (Relocs unit at bytes) = Within units unit bytes
Valid units (Total bytes) = Unit {0}
Valid units Done = Unit {0}

-- only at the end there is no line
abbrev pub goes_on : Cursor → Bool
goes_on (Units unit bytes) = true
goes_on (Pieces unit at bytes) = true
goes_on (Symbols unit at bytes) = true
goes_on (Relocs unit at bytes) = true
goes_on (Total bytes) = true
goes_on Done = false

-- ---- the next record of a unit

-- what stands where there is no piece, as `piece_in` has it
abbrev pub no_piece : Piece
no_piece = record { unit = 0; number = 0; section = 0; name = 0; address = 0; size = 0; alignment = 0; offset = 0; origin = 0 }

abbrev pub piece_of : List Piece → (place : ℕ) → Piece
piece_of pieces place = get_or pieces place no_piece

abbrev pub piece_is : (unit : ℕ) → Piece → Bool
piece_is unit p = eqb p.unit unit

abbrev pub symbol_is : (unit : ℕ) → PieceSymbol → Bool
symbol_is unit y = eqb y.unit unit

abbrev pub reloc_is : List Piece → (unit : ℕ) → PieceReloc → Bool
reloc_is pieces unit r = eqb (piece_of pieces r.piece).unit unit

-- the first number from `at` on, below the count, that passes; or none does
abbrev pub First : (p : ℕ → Bool) (at count : ℕ) → Option ℕ → Type 0
First p at count (Some k) = (at ≤ k) × (k < count) × (p k ≡ true) × ((j : ℕ) → at ≤ j → j < k → p j ≡ false)
First p at count None = (j : ℕ) → at ≤ j → j < count → p j ≡ false

-- a cursor at a record of its unit
abbrev pub Ready : (units : ℕ) → List Piece → List PieceSymbol → List PieceReloc → Cursor → Type 0
Ready units pieces symbols relocs (Units unit bytes) = unit < units
Ready units pieces symbols relocs (Pieces unit at bytes) = (at < length pieces) × ((d : Piece) → piece_is unit (get_or pieces at d) ≡ true)
Ready units pieces symbols relocs (Symbols unit at bytes) = (at < length symbols) × ((d : PieceSymbol) → symbol_is unit (get_or symbols at d) ≡ true)
Ready units pieces symbols relocs (Relocs unit at bytes) = (at < length relocs) × ((d : PieceReloc) → reloc_is pieces unit (get_or relocs at d) ≡ true)
Ready units pieces symbols relocs (Total bytes) = Unit {0}
Ready units pieces symbols relocs Done = Unit {0}

-- the same is left at r, which is a cursor at a record of its unit
pub record Sought (units : ℕ) (pieces : List Piece) (symbols : List PieceSymbol) (relocs : List PieceReloc) (c r : Cursor) : Type 0 where
  pub same :
      (name : ℕ → List ℕ) (symbol : ℕ → Symbol) (reloc : ℕ → Reloc) (names : List ℕ)
      → length names ≡ units
      → rest (record { name = name; symbol = symbol; reloc = reloc; units = names; pieces = pieces; symbols = symbols; relocs = relocs }) c
      ≡ rest (record { name = name; symbol = symbol; reloc = reloc; units = names; pieces = pieces; symbols = symbols; relocs = relocs }) r
  pub valid : Valid units r
  pub ready : Ready units pieces symbols relocs r
  pub goes : goes_on r ≡ goes_on c

-- .. whatever the records are that are behind it
abbrev pub SoughtRelocs : (units : ℕ) → List Piece → List PieceReloc → (c r : Cursor) → Type 0
SoughtRelocs units pieces relocs c r = (symbols : List PieceSymbol) → Sought units pieces symbols relocs c r

abbrev pub SoughtUnits : (units : ℕ) → (c r : Cursor) → Type 0
SoughtUnits units c r = (pieces : List Piece) (symbols : List PieceSymbol) (relocs : List PieceReloc) → Sought units pieces symbols relocs c r

-- ---- a line

abbrev pub piece_text : (name : ℕ → List ℕ) → Piece → List ℕ
piece_text name p = piece_line p.number (name p.name) p.address p.size p.alignment p.origin

-- "piece or `common`"
abbrev pub owner_at : List Piece → (place : ℕ) → Option ℕ
owner_at pieces place = cond (eqb place 65535) None (Some (piece_of pieces place).number)

abbrev pub symbol_text : (name : ℕ → List ℕ) → (symbol : ℕ → Symbol) → List Piece → PieceSymbol → List ℕ
symbol_text name symbol pieces y = sym_line (name (symbol y.symbol).name) (owner_at pieces y.piece) y.address (symbol y.symbol).size

abbrev pub reloc_text : (reloc : ℕ → Reloc) → List Piece → PieceReloc → List ℕ
reloc_text reloc pieces r =
    reloc_line (piece_of pieces r.piece).number r.offset (reloc r.relocation).kind (reloc r.relocation).target (reloc r.relocation).addend

-- this text was written, and the next line begins there
pub record Wrote (before after text : List ℕ) (behind : Cursor) (r : Line) : Type 0 where
  pub written : Written before after text r.length
  pub next : r.next ≡ behind

-- a line was written: what was left is that line and what is left behind it, and 0 bytes are written only at the end
pub record Next (t : Run) (c : Cursor) (before after : List ℕ) (r : Line) : Type 0 where
  pub is : rest t c ≡ take r.length after ++ rest t r.next
  pub valid : Valid (length t.units) r.next
  pub goes : ltb 0 r.length ≡ goes_on c
  pub few : r.length ≤ 208
  pub long : length after ≡ length before

-- a line of some bytes, or None at the end
abbrev pub NextLine : (t : Run) (c : Cursor) (before after : List ℕ) → Option Line → Type 0
NextLine t c before after r = MatchOption r (Next t c before after (record { length = 0; next = Done })) (λ line. Next t c before after line × (0 < line.length))
