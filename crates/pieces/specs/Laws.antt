-- The laws of `Written` for the records of the three output tables: how many bytes a record has, and that its reader looks at them alone. Assumes nothing.
use mathlib.Core.Path.{◌≡◌, refl}
use mathlib.Core.List.{List}
use Prim.Native.Nat.{ℕ, ◌+◌, ◌<◌}
use native.Mathlib.Omega.{arith}
use lib.ListN.{length, get_or}
use Rattle.fields.proofs.Alike.{first16, field16, field32, field64}
use Rattle.pieces.specs.Pieces.{piece_at, symbol_at, reloc_at, piece_head, piece_bytes, symbol_bytes, reloc_bytes, piece_width}
use Rattle.pieces.specs.declared.Piece.{Piece}
use Rattle.pieces.specs.declared.PieceSymbol.{PieceSymbol}
use Rattle.pieces.specs.declared.PieceReloc.{PieceReloc}

-- ---- a record's length
pub length-piece_bytes : (p : Piece) → length (piece_bytes p) ≡ piece_width
unfolding piece_bytes piece_head
length-piece_bytes p = refl

pub length-symbol_bytes : (y : PieceSymbol) → length (symbol_bytes y) ≡ 12
unfolding symbol_bytes
length-symbol_bytes y = refl

pub length-reloc_bytes : (r : PieceReloc) → length (reloc_bytes r) ≡ 8
unfolding reloc_bytes
length-reloc_bytes r = refl

-- ---- a reader looks at its record's bytes only
pub piece_same : (b c : List ℕ) (i j : ℕ) → ((k : ℕ) → k < piece_width → get_or b (i + k) 0 ≡ get_or c (j + k) 0) → piece_at b i ≡ piece_at c j
unfolding piece_at
piece_same b c i j same = λ z. record {
  unit = first16 piece_width b c i j same (omega arith) z;
  number = field16 piece_width b c i j same 2 (omega arith) z;
  section = field16 piece_width b c i j same 4 (omega arith) z;
  name = field16 piece_width b c i j same 6 (omega arith) z;
  address = field32 piece_width b c i j same 8 (omega arith) z;
  size = field32 piece_width b c i j same 12 (omega arith) z;
  alignment = field32 piece_width b c i j same 16 (omega arith) z;
  offset = field64 piece_width b c i j same 20 (omega arith) z;
  origin = field16 piece_width b c i j same 28 (omega arith) z;
}

pub symbol_same : (b c : List ℕ) (i j : ℕ) → ((k : ℕ) → k < 12 → get_or b (i + k) 0 ≡ get_or c (j + k) 0) → symbol_at b i ≡ symbol_at c j
unfolding symbol_at
symbol_same b c i j same = λ z. record {
  unit = first16 12 b c i j same (omega arith) z;
  piece = field16 12 b c i j same 2 (omega arith) z;
  symbol = field16 12 b c i j same 4 (omega arith) z;
  flags = field16 12 b c i j same 6 (omega arith) z;
  address = field32 12 b c i j same 8 (omega arith) z;
}

pub reloc_same : (b c : List ℕ) (i j : ℕ) → ((k : ℕ) → k < 8 → get_or b (i + k) 0 ≡ get_or c (j + k) 0) → reloc_at b i ≡ reloc_at c j
unfolding reloc_at
reloc_same b c i j same = λ z. record {
  piece = first16 8 b c i j same (omega arith) z;
  relocation = field16 8 b c i j same 2 (omega arith) z;
  offset = field32 8 b c i j same 4 (omega arith) z;
}
