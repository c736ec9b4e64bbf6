-- What of the listing is left at a cursor: at the first one all of it, and each line stands at the front of what is left. Readers use `rest-first`. Assumes nothing.
use mathlib.Core.Path.{◌≡◌, sym, ap, ◌∙◌}
use mathlib.Core.List.{List, [], ◌∷◌, ◌++◌, append_assoc}
use mathlib.Core.Bool.{true}
use Prim.Native.Nat.{ℕ, suc, ◌+◌, ◌≤◌, ◌<◌}
use native.Mathlib.Nat.{zero-add, add-zero}
use native.Mathlib.Numerals.{add-one}
use native.Mathlib.Omega.{arith}
use lib.ListN.{length, get_or, drop, drop_of_length-le}
use lib.Seq.{drop-cons}
use Rattle.lists.specs.Rows.{keep_if}
use Rattle.pieces.specs.declared.Piece.{Piece}
use Rattle.pieces.specs.declared.PieceSymbol.{PieceSymbol}
use Rattle.pieces.specs.declared.PieceReloc.{PieceReloc}
use Rattle.lines.specs.Lines.{unit_line}
use Rattle.listing.specs.declared.Cursor.TheVariants.{Units}
use Rattle.listing.specs.Listing.{Run, figure, figures, pieces_of, symbols_of, relocs_of, piece_lines, sym_lines, reloc_lines, unit_lines, units_lines, listing}
use Rattle.listing.specs.Cursor.{from_total, from_unit, from_relocs, from_symbols, from_pieces, rest, piece_is, symbol_is, reloc_is, piece_text, symbol_text, reloc_text}
use Rattle.listing.proofs.First.{keep_first}

module _ (t : Run) where
  -- at the first cursor the whole listing is left
  pub rest-first : rest t (Units 0 0) ≡ listing t
  unfolding from_unit listing
  rest-first = ap (λ (b : ℕ). units_lines t 0 t.units ++ from_total t b) (zero-add (figures t 0 t.units))

  -- ---- a unit

  pub units_ended : (unit bytes : ℕ) → length t.units ≤ unit → from_unit t unit bytes ≡ from_total t bytes
  unfolding from_unit units_lines figures
  units_ended unit bytes h =
      ap (λ (l : List ℕ). units_lines t unit l ++ from_total t (bytes + figures t unit l)) (drop_of_length-le t.units h)
      ∙ ap (from_total t) (add-zero bytes)

  five : (a p s r x y : List ℕ) → ((((a ++ p) ++ s) ++ r) ++ x) ++ y ≡ a ++ (p ++ (s ++ (r ++ (x ++ y))))
  five a p s r x y =
      append_assoc (((a ++ p) ++ s) ++ r) x y
      ∙ append_assoc ((a ++ p) ++ s) r (x ++ y)
      ∙ append_assoc (a ++ p) s (r ++ (x ++ y))
      ∙ append_assoc a p (s ++ (r ++ (x ++ y)))

  pub unit_step : (unit bytes : ℕ) → unit < length t.units
      → from_unit t unit bytes ≡ unit_line unit (t.name (get_or t.units unit 0)) (figure t unit) ++ from_pieces t unit 0 (bytes + figure t unit)
  unfolding from_unit from_pieces from_symbols from_relocs units_lines figures unit_lines
  unit_step unit bytes h =
      ap (λ (l : List ℕ). units_lines t unit l ++ from_total t (bytes + figures t unit l)) (drop-cons t.units unit 0 h)
      ∙ ap (λ (b : ℕ). units_lines t unit (get_or t.units unit 0 ∷ later) ++ from_total t b) sum
      ∙ five (unit_line unit (t.name (get_or t.units unit 0)) (figure t unit)) (piece_lines t (pieces_of unit t.pieces))
      (sym_lines t (symbols_of unit t.symbols)) (reloc_lines t (relocs_of t unit t.relocs)) (units_lines t (suc unit) later)
      (from_total t (bytes + figure t unit + figures t (suc unit) later))
      ∙ ap (λ (k : ℕ). unit_line unit (t.name (get_or t.units unit 0)) (figure t unit)
      ++ (piece_lines t (pieces_of unit t.pieces)
      ++ (sym_lines t (symbols_of unit t.symbols)
      ++ (reloc_lines t (relocs_of t unit t.relocs)
      ++ (units_lines t k (drop k t.units) ++ from_total t (bytes + figure t unit + figures t k (drop k t.units)))))))
      (sym (add-one unit))
    where
      later : List ℕ
      later = drop (suc unit) t.units

      sum : bytes + (figure t unit + figures t (suc unit) (drop (suc unit) t.units)) ≡ bytes + figure t unit + figures t (suc unit) (drop (suc unit) t.units)
      sum = omega arith

  -- ---- a piece, a symbol, a relocation

  module _ (unit at bytes : ℕ) where
    pub piece_step : (d : Piece) → at < length t.pieces → piece_is unit (get_or t.pieces at d) ≡ true
        → from_pieces t unit at bytes ≡ piece_text t.name (get_or t.pieces at d) ++ from_pieces t unit (at + 1) bytes
    unfolding from_pieces piece_lines
    piece_step d h e =
        ap (λ (l : List Piece). piece_lines t l ++ from_symbols t unit 0 bytes) (keep_first (piece_is unit) t.pieces at d h e)
        ∙ append_assoc (piece_text t.name (get_or t.pieces at d)) (piece_lines t (pieces_of unit (drop (suc at) t.pieces))) (from_symbols t unit 0 bytes)
        ∙ ap (λ (k : ℕ). piece_text t.name (get_or t.pieces at d) ++ (piece_lines t (pieces_of unit (drop k t.pieces)) ++ from_symbols t unit 0 bytes))
        (sym (add-one at))

    pub symbol_step : (d : PieceSymbol) → at < length t.symbols → symbol_is unit (get_or t.symbols at d) ≡ true
        → from_symbols t unit at bytes ≡ symbol_text t.name t.symbol t.pieces (get_or t.symbols at d) ++ from_symbols t unit (at + 1) bytes
    unfolding from_symbols sym_lines
    symbol_step d h e =
        ap (λ (l : List PieceSymbol). sym_lines t l ++ from_relocs t unit 0 bytes) (keep_first (symbol_is unit) t.symbols at d h e)
        ∙ append_assoc (symbol_text t.name t.symbol t.pieces (get_or t.symbols at d)) (sym_lines t (symbols_of unit (drop (suc at) t.symbols)))
        (from_relocs t unit 0 bytes)
        ∙ ap (λ (k : ℕ). symbol_text t.name t.symbol t.pieces (get_or t.symbols at d)
        ++ (sym_lines t (symbols_of unit (drop k t.symbols)) ++ from_relocs t unit 0 bytes))
        (sym (add-one at))

    pub reloc_step : (d : PieceReloc) → at < length t.relocs → reloc_is t.pieces unit (get_or t.relocs at d) ≡ true
        → from_relocs t unit at bytes ≡ reloc_text t.reloc t.pieces (get_or t.relocs at d) ++ from_relocs t unit (at + 1) bytes
    unfolding from_relocs reloc_lines
    reloc_step d h e =
        ap (λ (l : List PieceReloc). reloc_lines t l ++ from_unit t (unit + 1) bytes) (keep_first (reloc_is t.pieces unit) t.relocs at d h e)
        ∙ append_assoc (reloc_text t.reloc t.pieces (get_or t.relocs at d)) (reloc_lines t (relocs_of t unit (drop (suc at) t.relocs)))
        (from_unit t (unit + 1) bytes)
        ∙ ap (λ (k : ℕ). reloc_text t.reloc t.pieces (get_or t.relocs at d)
        ++ (reloc_lines t (relocs_of t unit (drop k t.relocs)) ++ from_unit t (unit + 1) bytes))
        (sym (add-one at))

  -- ---- none is left

  module _ (unit at bytes : ℕ) where
    pub pieces_ended : keep_if (piece_is unit) (drop at t.pieces) ≡ [] → from_pieces t unit at bytes ≡ from_symbols t unit 0 bytes
    unfolding from_pieces piece_lines
    pieces_ended e = ap (λ (l : List Piece). piece_lines t l ++ from_symbols t unit 0 bytes) e

    pub symbols_ended : keep_if (symbol_is unit) (drop at t.symbols) ≡ [] → from_symbols t unit at bytes ≡ from_relocs t unit 0 bytes
    unfolding from_symbols sym_lines
    symbols_ended e = ap (λ (l : List PieceSymbol). sym_lines t l ++ from_relocs t unit 0 bytes) e

    pub relocs_ended : keep_if (reloc_is t.pieces unit) (drop at t.relocs) ≡ [] → from_relocs t unit at bytes ≡ from_unit t (unit + 1) bytes
    unfolding from_relocs reloc_lines
    relocs_ended e = ap (λ (l : List PieceReloc). reloc_lines t l ++ from_unit t (unit + 1) bytes) e
