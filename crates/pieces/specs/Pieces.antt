-- What the walk gives, as packed records, little-endian: pieces of 30 bytes (unit 2, number in its unit 2, section 2, name 2, address 4, size 4,
-- alignment 4, file offset 8, origin of its split 2), piece symbols of 12 (unit 2, piece 2, its place among the pieces or 0xFFFF for common, symbol 2, flags 2, address 4),
-- piece relocations of 8 (piece 2, relocation 2, offset 4). The first k records of a table are read as a list; `packed` are a list's records, one after
-- another. Callers use the laws of proofs/Laws.antt: a table's first bytes are its records' bytes.
use Rattle.std.specs.Prelude.{ℕ, ◌+◌, ◌*◌, ◌<◌, List, [], ◌∷◌, ◌++◌}
use Rattle.lists.specs.Rows.{tabulate}
use Rattle.fields.specs.Fields.{le16, le32, le64, enc16, enc32, enc64}
use Rattle.pieces.specs.declared.Piece.{Piece}
use Rattle.pieces.specs.declared.PieceSymbol.{PieceSymbol}
use Rattle.pieces.specs.declared.PieceReloc.{PieceReloc}

-- the bytes of a piece's record
abbrev pub piece_width : ℕ
piece_width = 30

-- ---- a record at a place

unfoldable pub piece_at : List ℕ → ℕ → Piece
piece_at b at = record {
  unit = le16 b at;
  number = le16 b (at + 2);
  section = le16 b (at + 4);
  name = le16 b (at + 6);
  address = le32 b (at + 8);
  size = le32 b (at + 12);
  alignment = le32 b (at + 16);
  offset = le64 b (at + 20);
  origin = le16 b (at + 28);
}

unfoldable pub symbol_at : List ℕ → ℕ → PieceSymbol
symbol_at b at = record {
  unit = le16 b at;
  piece = le16 b (at + 2);
  symbol = le16 b (at + 4);
  flags = le16 b (at + 6);
  address = le32 b (at + 8);
}

unfoldable pub reloc_at : List ℕ → ℕ → PieceReloc
reloc_at b at = record { piece = le16 b at; relocation = le16 b (at + 2); offset = le32 b (at + 4) }

-- ---- a record's bytes

-- what document 01 gives a piece: 28 bytes
unfoldable pub piece_head : Piece → List ℕ
piece_head p =
    enc16 p.unit ++ enc16 p.number ++ enc16 p.section ++ enc16 p.name ++ enc32 p.address ++ enc32 p.size
    ++ enc32 p.alignment ++ enc64 p.offset

-- .. and, document 02, (b), the origin of its split
unfoldable pub piece_bytes : Piece → List ℕ
piece_bytes p = piece_head p ++ enc16 p.origin

unfoldable pub symbol_bytes : PieceSymbol → List ℕ
symbol_bytes y = enc16 y.unit ++ enc16 y.piece ++ enc16 y.symbol ++ enc16 y.flags ++ enc32 y.address

unfoldable pub reloc_bytes : PieceReloc → List ℕ
reloc_bytes r = enc16 r.piece ++ enc16 r.relocation ++ enc32 r.offset

-- ---- tables

-- the first k records of a table
unfoldable pub pieces_in : List ℕ → ℕ → List Piece
pieces_in b k = tabulate (λ i. piece_at b (piece_width * i)) 0 k

unfoldable pub symbols_in : List ℕ → ℕ → List PieceSymbol
symbols_in b k = tabulate (λ i. symbol_at b (12 * i)) 0 k

unfoldable pub relocs_in : List ℕ → ℕ → List PieceReloc
relocs_in b k = tabulate (λ i. reloc_at b (8 * i)) 0 k

-- records one after another
unfoldable pub packed : {A : Type 0} → (A → List ℕ) → List A → List ℕ
packed bytes [] = []
packed bytes (x ∷ l) = bytes x ++ packed bytes l

-- ---- each field has its width

pub record FitsPiece (p : Piece) : Type 0 where
  pub unit : p.unit < 65536
  pub number : p.number < 65536
  pub section : p.section < 65536
  pub name : p.name < 65536
  pub address : p.address < 4294967296
  pub size : p.size < 4294967296
  pub alignment : p.alignment < 4294967296
  pub offset : p.offset < 18446744073709551616
  pub origin : p.origin < 65536

pub record FitsSymbol (y : PieceSymbol) : Type 0 where
  pub unit : y.unit < 65536
  pub piece : y.piece < 65536
  pub symbol : y.symbol < 65536
  pub flags : y.flags < 65536
  pub address : y.address < 4294967296

pub record FitsReloc (r : PieceReloc) : Type 0 where
  pub piece : r.piece < 65536
  pub relocation : r.relocation < 65536
  pub offset : r.offset < 4294967296
