-- What the lent tables mean: the records of the walk's tables, and all tables together as those of a run.
use Rattle.std.specs.Prelude.{ℕ, ◌*◌, List}
use Rattle.names.specs.declared.Names.{Names}
use Rattle.names.specs.Append.{Columns}
use Rattle.obj.specs.declared.Table.{Table}
use Rattle.obj.specs.declared.Symbol.{Symbol}
use Rattle.obj.specs.declared.Reloc.{Reloc}
use Rattle.symbol_order.specs.Order as order
use Rattle.relocs.specs.Relocs as relocs
use Rattle.pieces.specs.declared.Piece.{Piece}
use Rattle.pieces.specs.declared.PieceSymbol.{PieceSymbol}
use Rattle.pieces.specs.declared.PieceReloc.{PieceReloc}
use Rattle.pieces.specs.Pieces.{piece_at, symbol_at, reloc_at, pieces_in, symbols_in, relocs_in, piece_width}
use Rattle.listing.specs.declared.piece_lists.PieceLists.{PieceLists}
use Rattle.listing.specs.Tables.{Tables}

-- ---- what the walk gave

abbrev pub listed_pieces : PieceLists → List Piece
listed_pieces l = pieces_in l.pieces.now l.made.pieces

abbrev pub listed_symbols : PieceLists → List PieceSymbol
listed_symbols l = symbols_in l.symbols.now l.made.symbols

abbrev pub listed_relocs : PieceLists → List PieceReloc
listed_relocs l = relocs_in l.relocs.now l.made.relocs

-- record k of each
abbrev pub piece_on : PieceLists → (k : ℕ) → Piece
piece_on l k = piece_at l.pieces.now (piece_width * k)

abbrev pub symbol_on : PieceLists → (k : ℕ) → PieceSymbol
symbol_on l k = symbol_at l.symbols.now (12 * k)

abbrev pub reloc_on : PieceLists → (k : ℕ) → PieceReloc
reloc_on l k = reloc_at l.relocs.now (8 * k)

-- ---- the image's tables

-- the symbol and the relocation of a number
abbrev pub symbol_of : Table → ℕ → Symbol
symbol_of symbols = order.symbol_of symbols.bytes.now symbols.places.now

abbrev pub reloc_of : Table → ℕ → Reloc
reloc_of image = relocs.reloc_of image.bytes.now image.places.now

abbrev pub columns_of : Names → Columns
columns_of names = record { bytes = names.bytes.now; places = names.places.now; lengths = names.lengths.now }

-- ---- all of them

abbrev pub tables_of : (base added : Names) (symbols relocs units : Table) → PieceLists → Tables
tables_of base added symbols relocs units l = record {
  base = columns_of base;
  added = columns_of added;
  symbols = record { bytes = symbols.bytes.now; places = symbols.places.now };
  relocs = record { bytes = relocs.bytes.now; places = relocs.places.now };
  units = record { bytes = units.bytes.now; places = units.places.now };
  pieces = record { bytes = l.pieces.now; count = l.made.pieces };
  piece_symbols = record { bytes = l.symbols.now; count = l.made.symbols };
  piece_relocs = record { bytes = l.relocs.now; count = l.made.relocs };
}
