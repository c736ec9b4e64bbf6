-- The lent tables as a run: names in two parts, those of the input and those that were added; symbols and relocations of the image; the units in link order; and
-- what the walk gave.
use Rattle.std.specs.Prelude.{ℕ, ◌+◌, ◌*◌, ◌-◌, ◌≤◌, ◌<◌, ◌≡◌, List, cond, length, get_or, eqb, ltb}
use Rattle.names.specs.Names.{name_at}
use Rattle.names.specs.Append.{Columns}
use Rattle.obj.specs.Records.{Held, unit_at}
use Rattle.units.specs.Units.{unit_names}
use Rattle.symbol_order.specs.Order.{symbol_of}
use Rattle.relocs.specs.Relocs.{reloc_of}
use Rattle.pieces.specs.Pieces.{piece_at, symbol_at, reloc_at, pieces_in, symbols_in, relocs_in, piece_width}
use Rattle.obj.specs.declared.Symbol.{Symbol}
use Rattle.pieces.specs.declared.Piece.{Piece}
use Rattle.pieces.specs.declared.PieceSymbol.{PieceSymbol}
use Rattle.listing.specs.Listing.{Run, figure_of}
use Rattle.listing.specs.Cursor.{most}

-- a number below the base's count is a base name, else an added one
abbrev pub name_in : (base added : Columns) → ℕ → List ℕ
name_in base added k =
    cond (ltb k (length base.places))
    (name_at base.bytes base.places base.lengths k)
    (name_at added.bytes added.places added.lengths (k - length base.places))

-- records and where they lie
pub record Records : Type 0 where
  pub bytes : List ℕ
  pub places : List ℕ

-- packed records and how many they are
pub record Packed : Type 0 where
  pub bytes : List ℕ
  pub count : ℕ

pub record Tables : Type 0 where
  pub base : Columns
  pub added : Columns
  pub symbols : Records
  pub relocs : Records
  pub units : Records
  pub pieces : Packed
  pub piece_symbols : Packed
  pub piece_relocs : Packed

abbrev pub run_of : Tables → Run
run_of t = record {
  name = name_in t.base t.added;
  symbol = symbol_of t.symbols.bytes t.symbols.places;
  reloc = reloc_of t.relocs.bytes t.relocs.places;
  units = unit_names t.units.bytes t.units.places;
  pieces = pieces_in t.pieces.bytes t.pieces.count;
  symbols = symbols_in t.piece_symbols.bytes t.piece_symbols.count;
  relocs = relocs_in t.piece_relocs.bytes t.piece_relocs.count;
}

-- ---- what is asked of the tables

-- name k has a place, lies within the bytes, and has at most 128
pub record Spelled (c : Columns) (k : ℕ) : Type 0 where
  pub placed : k < length c.places
  pub measured : k < length c.lengths
  pub inside : get_or c.places k 0 + get_or c.lengths k 0 ≤ length c.bytes
  pub short : get_or c.lengths k 0 ≤ 128

pub record Known (names more : Columns) (k : ℕ) : Type 0 where
  pub base : k < length names.places → Spelled names k
  pub added : length names.places ≤ k → Spelled more (k - length names.places)

-- each record's number is one of the image, where its record can be read, and each name is known. That the walk's records lie in their tables is `Kept`
-- (specs/Room.antt).
pub record Readable (t : Tables) : Type 0 where
  pub few_units : length t.units.places ≤ 65535
  pub units : (k : ℕ) → k < length t.units.places → Held 8 t.units.bytes t.units.places k
  pub unit_names : (k : ℕ) → k < length t.units.places → Known t.base t.added (unit_at t.units.bytes (get_or t.units.places k 0)).name
  pub piece_names : (k : ℕ) → k < t.pieces.count → Known t.base t.added (piece_at t.pieces.bytes (piece_width * k)).name
  pub symbols : (k : ℕ) → k < t.piece_symbols.count → Held 20 t.symbols.bytes t.symbols.places (symbol_at t.piece_symbols.bytes (12 * k)).symbol
  pub symbol_names :
      (k : ℕ)
      → k < t.piece_symbols.count
      → Known t.base t.added (symbol_of t.symbols.bytes t.symbols.places (symbol_at t.piece_symbols.bytes (12 * k)).symbol).name
  pub relocs : (k : ℕ) → k < t.piece_relocs.count → Held 23 t.relocs.bytes t.relocs.places (reloc_at t.piece_relocs.bytes (8 * k)).relocation

-- ---- what is read of them

-- name k, at most 128 bytes
pub record Name (base added : Columns) (k : ℕ) (r : List ℕ) : Type 0 where
  pub is : r ≡ name_in base added k
  pub short : length r ≤ 128

-- what a record adds to the unit's figure, if it is the unit's
pub record Adds (unit of adds r : ℕ) : Type 0 where
  pub is : r ≡ cond (eqb of unit) adds 0
  pub small : r ≤ 4294967295

-- the sum over so many records
pub record Summed (count total r : ℕ) : Type 0 where
  pub is : r ≡ total
  pub few : r ≤ count * 4294967295

-- "the unit figure"
pub record Figure (symbol : ℕ → Symbol) (pieces : List Piece) (symbols : List PieceSymbol) (unit r : ℕ) : Type 0 where
  pub is : r ≡ figure_of symbol pieces symbols unit
  pub few : r ≤ most
