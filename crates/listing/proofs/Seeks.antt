-- The cursor moved to the next record of its unit has the same left; where a kind of record has none, the next kind begins. Assumes nothing.
use mathlib.Core.Path.{refl, sym, ap, ◌∙◌}
use mathlib.Core.List.{List, ◌++◌}
use Prim.Native.Nat.{ℕ, ◌+◌, ◌≤◌, ◌<◌}
use native.Mathlib.Omega.{arith}
use Rattle.lists.specs.Rows.{tabulate}
use Rattle.lists.proofs.Rows.{length-tabulate}
use Rattle.pieces.specs.declared.Piece.{Piece}
use Rattle.pieces.specs.declared.PieceSymbol.{PieceSymbol}
use Rattle.pieces.specs.declared.PieceReloc.{PieceReloc}
use Rattle.listing.specs.declared.Cursor.{Cursor}
use Rattle.listing.specs.declared.Cursor.TheVariants.{Units, Pieces, Symbols, Relocs, Total}
use Rattle.listing.specs.Listing.{piece_lines, sym_lines, reloc_lines}
use Rattle.listing.specs.Cursor.{from_unit, from_relocs, from_symbols, from_pieces, piece_is, symbol_is, reloc_is, First, Before, Within, Valid, Ready, Sought}
use Rattle.std.specs.Prelude.{Some, None}
use Rattle.listing.proofs.First.{kept_from, none_left, first_there}
use Rattle.listing.proofs.Rest.{units_ended, pieces_ended, symbols_ended, relocs_ended}

-- ---- a unit

pub sought_unit : (units unit bytes : ℕ) → Before units unit bytes → unit < units
    → (pieces : List Piece) (symbols : List PieceSymbol) (relocs : List PieceReloc) → Sought units pieces symbols relocs (Units unit bytes) (Units unit bytes)
sought_unit units unit bytes b h pieces symbols relocs = record { same = λ name symbol reloc names e. refl; valid = b; ready = h; goes = refl }

pub sought_total : (units unit bytes : ℕ) → units ≤ unit
    → (pieces : List Piece) (symbols : List PieceSymbol) (relocs : List PieceReloc) → Sought units pieces symbols relocs (Units unit bytes) (Total bytes)
sought_total units unit bytes h pieces symbols relocs = record {
  same =
      λ name symbol reloc names e.
      units_ended (record { name = name; symbol = symbol; reloc = reloc; units = names; pieces = pieces; symbols = symbols; relocs = relocs }) unit bytes
      (omega arith);
  valid = tt;
  ready = tt;
  goes = refl;
}

-- ---- a relocation

module _ (units unit at bytes : ℕ) (pieces : List Piece) (f : ℕ → PieceReloc) (count : ℕ) (symbols : List PieceSymbol) where
  pub sought_reloc : {k : ℕ} → First (λ i. reloc_is pieces unit (f i)) at count (Some k) → Within units unit bytes → Sought units pieces symbols (tabulate f 0 count) (Relocs unit at bytes) (Relocs unit k bytes)
  unfolding from_relocs
  sought_reloc {k} s w = record {
    same =
        λ name symbol reloc names e.
        ap
        (λ (l : List PieceReloc).
        reloc_lines (record { name = name; symbol = symbol; reloc = reloc; units = names; pieces = pieces; symbols = symbols; relocs = tabulate f 0 count }) l
        ++ from_unit (record { name = name; symbol = symbol; reloc = reloc; units = names; pieces = pieces; symbols = symbols; relocs = tabulate f 0 count })
        (unit + 1) bytes)
        (sym (kept_from (reloc_is pieces unit) f count at k s.0 (let h = s.1 in omega arith) s.3));
    valid = w;
    ready = (rw (length-tabulate f 0 count) s.1, first_there (reloc_is pieces unit) f count at k s.1 s.2);
    goes = refl;
  }

  pub relocs_passed : {r : Cursor} → First (λ i. reloc_is pieces unit (f i)) at count None → Sought units pieces symbols (tabulate f 0 count) (Units (unit + 1) bytes) r
      → Sought units pieces symbols (tabulate f 0 count) (Relocs unit at bytes) r
  relocs_passed s n = record {
    same =
        λ name symbol reloc names e.
        relocs_ended
        (record { name = name; symbol = symbol; reloc = reloc; units = names; pieces = pieces; symbols = symbols; relocs = tabulate f 0 count })
        unit at bytes (none_left (reloc_is pieces unit) f count at s)
        ∙ n.same name symbol reloc names e;
    valid = n.valid;
    ready = n.ready;
    goes = n.goes;
  }

-- ---- a symbol

module _ (units unit at bytes : ℕ) (pieces : List Piece) (f : ℕ → PieceSymbol) (count : ℕ) (relocs : List PieceReloc) where
  pub sought_symbol : {k : ℕ} → First (λ i. symbol_is unit (f i)) at count (Some k) → Within units unit bytes → Sought units pieces (tabulate f 0 count) relocs (Symbols unit at bytes) (Symbols unit k bytes)
  unfolding from_symbols
  sought_symbol {k} s w = record {
    same =
        λ name symbol reloc names e.
        ap
        (λ (l : List PieceSymbol).
        sym_lines (record { name = name; symbol = symbol; reloc = reloc; units = names; pieces = pieces; symbols = tabulate f 0 count; relocs = relocs }) l
        ++ from_relocs (record { name = name; symbol = symbol; reloc = reloc; units = names; pieces = pieces; symbols = tabulate f 0 count; relocs = relocs })
        unit 0 bytes)
        (sym (kept_from (symbol_is unit) f count at k s.0 (let h = s.1 in omega arith) s.3));
    valid = w;
    ready = (rw (length-tabulate f 0 count) s.1, first_there (symbol_is unit) f count at k s.1 s.2);
    goes = refl;
  }

  pub symbols_passed : {r : Cursor} → First (λ i. symbol_is unit (f i)) at count None → Sought units pieces (tabulate f 0 count) relocs (Relocs unit 0 bytes) r
      → Sought units pieces (tabulate f 0 count) relocs (Symbols unit at bytes) r
  symbols_passed s n = record {
    same =
        λ name symbol reloc names e.
        symbols_ended
        (record { name = name; symbol = symbol; reloc = reloc; units = names; pieces = pieces; symbols = tabulate f 0 count; relocs = relocs })
        unit at bytes (none_left (symbol_is unit) f count at s)
        ∙ n.same name symbol reloc names e;
    valid = n.valid;
    ready = n.ready;
    goes = n.goes;
  }

-- ---- a piece

module _ (units unit at bytes : ℕ) (f : ℕ → Piece) (count : ℕ) (symbols : List PieceSymbol) (relocs : List PieceReloc) where
  pub sought_piece : {k : ℕ} → First (λ i. piece_is unit (f i)) at count (Some k) → Within units unit bytes → Sought units (tabulate f 0 count) symbols relocs (Pieces unit at bytes) (Pieces unit k bytes)
  unfolding from_pieces
  sought_piece {k} s w = record {
    same =
        λ name symbol reloc names e.
        ap
        (λ (l : List Piece).
        piece_lines (record { name = name; symbol = symbol; reloc = reloc; units = names; pieces = tabulate f 0 count; symbols = symbols; relocs = relocs }) l
        ++ from_symbols (record { name = name; symbol = symbol; reloc = reloc; units = names; pieces = tabulate f 0 count; symbols = symbols; relocs = relocs })
        unit 0 bytes)
        (sym (kept_from (piece_is unit) f count at k s.0 (let h = s.1 in omega arith) s.3));
    valid = w;
    ready = (rw (length-tabulate f 0 count) s.1, first_there (piece_is unit) f count at k s.1 s.2);
    goes = refl;
  }

  pub pieces_passed : {r : Cursor} → First (λ i. piece_is unit (f i)) at count None → Sought units (tabulate f 0 count) symbols relocs (Symbols unit 0 bytes) r
      → Sought units (tabulate f 0 count) symbols relocs (Pieces unit at bytes) r
  pieces_passed s n = record {
    same =
        λ name symbol reloc names e.
        pieces_ended
        (record { name = name; symbol = symbol; reloc = reloc; units = names; pieces = tabulate f 0 count; symbols = symbols; relocs = relocs })
        unit at bytes (none_left (piece_is unit) f count at s)
        ∙ n.same name symbol reloc names e;
    valid = n.valid;
    ready = n.ready;
    goes = n.goes;
  }

-- ---- a cursor that stands at a record of its unit

pub sought_here : {units : ℕ} {pieces : List Piece} {symbols : List PieceSymbol} {relocs : List PieceReloc} (c : Cursor) → Valid units c → Ready units pieces symbols relocs c
    → Sought units pieces symbols relocs c c
sought_here c v r = record { same = λ name symbol reloc names e. refl; valid = v; ready = r; goes = refl }
