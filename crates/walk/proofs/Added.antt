-- What each answer of `give` begins with: the split was asked forwards, and its symbols are added, whatever the other splits, the units and the sections' bytes are.
-- Assumes nothing.
use mathlib.Core.Path.{◌≡◌, sym, ap, ◌∙◌}
use mathlib.Core.List.{List}
use mathlib.Core.Bool.{Bool, true, false, not, ◌&&◌, ◌||◌}
use Prim.Native.Nat.{ℕ, ◌≤◌}
use native.Mathlib.Omega.{arith}
use lib.Dec.{eqb, ltb}
use lib.ListN.{length}
use Rattle.obj.specs.declared.Section.{Section}
use Rattle.obj.specs.declared.Reloc.{Reloc}
use Rattle.obj.specs.declared.Split.{Split}
use Rattle.symbols.specs.Ranges.{has_symbols}
use Rattle.sections.specs.Image.{Image}
use Rattle.pieces.specs.declared.Counts.{Counts}
use Rattle.pieces.specs.declared.PieceSymbol.{PieceSymbol}
use Rattle.pieces.specs.declared.lent.PieceTables.{PieceTables}
use Rattle.pieces.specs.Tables.{symbols_of}
use Rattle.pieces.proofs.Laws.{length-pieces_in, length-symbols_in}
use Rattle.relocs.specs.Relocs.{relocs_of}
use Rattle.splits.specs.Questions.{is_common}
use Rattle.walk.specs.Walk.{fits, add_symbols, split_symbols}
use Rattle.walk.specs.Adding.{AddsNow}
use Rattle.walk.specs.Giving.{input_of, output_of}
use Rattle.walk.proofs.Giving.{symbols_with, backwards, backwards_is}

module _ (image : Image) (head : ℕ → Section) (reloc : ℕ → Reloc) (relocs n unit alignment : ℕ) (s : Split) (t : PieceTables) where
  -- the list of piece symbols with those of the split
  abbrev pub entries_with : List PieceSymbol
  entries_with = symbols_with image head reloc relocs n unit alignment s t.room (output_of t)

  abbrev pub Forwards : fits alignment s.start ≡ true → Type 0
  Forwards fit = (count : ℕ) (bytes : ℕ → List ℕ) (splits : List Split) (units : List ℕ)
      → backwards (input_of image (record { count = count; head = head; bytes = bytes }) reloc relocs splits units t.room) n s.start unit alignment s (output_of t) fit ≡ false

  pub forwards_is : (fit : fits alignment s.start ≡ true) {part : List ℕ} → part ≡ relocs_of reloc relocs n → {r : Bool}
      → r ≡ (ltb s.end s.start && ((not (eqb (length part) 0) || has_symbols image.symbol image.count n) || not (is_common s))) → r ≡ false → Forwards fit
  forwards_is fit {part} e {r} is f count bytes splits units =
      sym (backwards_is (input_of image (record { count = count; head = head; bytes = bytes }) reloc relocs splits units t.room) n s.start unit alignment s (output_of t) fit part e)
      ∙ sym is ∙ f

  pub wanted_is : {inside : List ℕ} → inside ≡ split_symbols image n s → add_symbols image unit t.made.pieces s (symbols_of t) inside ≡ entries_with
  wanted_is e = λ d. add_symbols image unit (sym (length-pieces_in t.pieces.now t.made.pieces) d) s (symbols_of t) (e d)

  module _ {inside chains : List ℕ} {mid : PieceTables} (e : inside ≡ split_symbols image n s) (now : AddsNow (add_symbols image unit t.made.pieces s (symbols_of t) inside) chains t mid) where
    pub entries_are : symbols_of mid ≡ entries_with
    entries_are = now.is ∙ wanted_is e

    pub few_entries : length entries_with ≤ t.room.symbols
    few_entries = omega (
      arith,
      ap (λ (l : List PieceSymbol). length l) entries_are,
      length-symbols_in mid.symbols.now mid.made.symbols,
      mid.fits.few_symbols,
      ap (λ (m : Counts). m.symbols) now.lent.room,
    )
