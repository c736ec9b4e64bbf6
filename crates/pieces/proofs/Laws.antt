-- The three output tables: their records are read back as they were written, and a table's first bytes are its records' bytes, by the laws of Tables.antt. Assumes nothing.
use mathlib.Core.Path.{◌≡◌}
use mathlib.Core.List.{List}
use Prim.Native.Nat.{ℕ, ◌+◌, ◌*◌, ◌≤◌, ◌<◌}
use native.Mathlib.Omega.{arith}
use lib.ListN.{length, get_or, take, drop}
use Rattle.lists.proofs.Rows.{length-tabulate}
use Rattle.fields.proofs.Laws.{round16, round32, round64}
use Rattle.pieces.specs.Pieces.{piece_at, symbol_at, reloc_at, piece_head, piece_bytes, symbol_bytes, reloc_bytes, pieces_in, symbols_in, relocs_in, packed, FitsPiece, FitsSymbol, FitsReloc, piece_width}
use Rattle.pieces.specs.declared.Piece.{Piece}
use Rattle.pieces.specs.declared.PieceSymbol.{PieceSymbol}
use Rattle.pieces.specs.declared.PieceReloc.{PieceReloc}
use Rattle.pieces.proofs.Tables.{packed-table, parts_join, bytes16, bytes32, bytes64}

-- ---- a record's bytes give it back
pub piece_back : (p : Piece) → FitsPiece p → piece_at (piece_bytes p) 0 ≡ p
unfolding piece_at piece_bytes piece_head
piece_back p f = λ z. record {
  unit = round16 p.unit f.unit z;
  number = round16 p.number f.number z;
  section = round16 p.section f.section z;
  name = round16 p.name f.name z;
  address = round32 p.address f.address z;
  size = round32 p.size f.size z;
  alignment = round32 p.alignment f.alignment z;
  offset = round64 p.offset f.offset z;
  origin = round16 p.origin f.origin z;
}

pub symbol_back : (y : PieceSymbol) → FitsSymbol y → symbol_at (symbol_bytes y) 0 ≡ y
unfolding symbol_at symbol_bytes
symbol_back y f = λ z. record {
  unit = round16 y.unit f.unit z;
  piece = round16 y.piece f.piece z;
  symbol = round16 y.symbol f.symbol z;
  flags = round16 y.flags f.flags z;
  address = round32 y.address f.address z;
}

pub reloc_back : (r : PieceReloc) → FitsReloc r → reloc_at (reloc_bytes r) 0 ≡ r
unfolding reloc_at reloc_bytes
reloc_back r f = λ z. record {
  piece = round16 r.piece f.piece z;
  relocation = round16 r.relocation f.relocation z;
  offset = round32 r.offset f.offset z;
}

-- ---- how many records are read
module _ (b : List ℕ) (k : ℕ) where
  pub length-pieces_in : length (pieces_in b k) ≡ k
  unfolding pieces_in
  length-pieces_in = length-tabulate (λ i. piece_at b (piece_width * i)) 0 k

  pub length-symbols_in : length (symbols_in b k) ≡ k
  unfolding symbols_in
  length-symbols_in = length-tabulate (λ i. symbol_at b (12 * i)) 0 k

  pub length-relocs_in : length (relocs_in b k) ≡ k
  unfolding relocs_in
  length-relocs_in = length-tabulate (λ i. reloc_at b (8 * i)) 0 k

-- ---- the bytes of a table
module _ (b : List ℕ) (small : (i : ℕ) → get_or b i 0 < 256) where
  piece_bytes_lem : (at : ℕ) → at + piece_width ≤ length b → piece_bytes (piece_at b at) ≡ take piece_width (drop at b)
  unfolding piece_at piece_bytes piece_head
  piece_bytes_lem at h =
      let names = parts_join b at 6 2
      (parts_join b at 4 2 (parts_join b at 2 2 (bytes16 b small at (omega arith)) (bytes16 b small (at + 2) (omega arith))) (bytes16 b small (at + 4) (omega arith)))
      (bytes16 b small (at + 6) (omega arith)) in
      parts_join b at 28 2
      (parts_join b at 20 8
      (parts_join b at 16 4
      (parts_join b at 12 4 (parts_join b at 8 4 names (bytes32 b small (at + 8) (omega arith))) (bytes32 b small (at + 12) (omega arith)))
      (bytes32 b small (at + 16) (omega arith)))
      (bytes64 b small (at + 20) (omega arith)))
      (bytes16 b small (at + 28) (omega arith))

  symbol_bytes_lem : (at : ℕ) → at + 12 ≤ length b → symbol_bytes (symbol_at b at) ≡ take 12 (drop at b)
  unfolding symbol_at symbol_bytes
  symbol_bytes_lem at h =
      parts_join b at 8 4
      (parts_join b at 6 2
      (parts_join b at 4 2 (parts_join b at 2 2 (bytes16 b small at (omega arith)) (bytes16 b small (at + 2) (omega arith))) (bytes16 b small (at + 4) (omega arith)))
      (bytes16 b small (at + 6) (omega arith)))
      (bytes32 b small (at + 8) (omega arith))

  reloc_bytes_lem : (at : ℕ) → at + 8 ≤ length b → reloc_bytes (reloc_at b at) ≡ take 8 (drop at b)
  unfolding reloc_at reloc_bytes
  reloc_bytes_lem at h =
      parts_join b at 4 4 (parts_join b at 2 2 (bytes16 b small at (omega arith)) (bytes16 b small (at + 2) (omega arith))) (bytes32 b small (at + 4) (omega arith))

  -- the first k records of a table, packed, are its first bytes
  module _ (k : ℕ) where
    pub pieces_packed : piece_width * k ≤ length b → packed piece_bytes (pieces_in b k) ≡ take (piece_width * k) b
    unfolding pieces_in
    pieces_packed h = packed-table piece_bytes piece_width piece_at b k (λ i q. piece_bytes_lem (piece_width * i) (omega arith))

    pub symbols_packed : 12 * k ≤ length b → packed symbol_bytes (symbols_in b k) ≡ take (12 * k) b
    unfolding symbols_in
    symbols_packed h = packed-table symbol_bytes 12 symbol_at b k (λ i q. symbol_bytes_lem (12 * i) (omega arith))

    pub relocs_packed : 8 * k ≤ length b → packed reloc_bytes (relocs_in b k) ≡ take (8 * k) b
    unfolding relocs_in
    relocs_packed h = packed-table reloc_bytes 8 reloc_at b k (λ i q. reloc_bytes_lem (8 * i) (omega arith))
