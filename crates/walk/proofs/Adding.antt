-- Entries behind those that are there: a symbol that is passed over or entered, a turn over a split's symbols or relocations, and that no list grows shorter.
-- Assumes nothing.
use mathlib.Core.Path.{◌≡◌, refl, sym, ap, ap₂, ◌∙◌}
use mathlib.Core.List.{List, [], ◌∷◌, ◌++◌}
use mathlib.Core.Bool.{Bool, true, false, cond, ◌||◌}
use Prim.Native.Nat.{ℕ, ◌+◌, ◌≤◌, ◌<◌}
use native.Mathlib.Numerals.{add-one}
use native.Mathlib.Omega.{arith}
use lib.ListN.{length, get_or, drop, length-append, drop_of_length-le}
use lib.Seq.{drop-cons}
use Rattle.obj.specs.declared.Symbol.{Symbol}
use Rattle.obj.specs.declared.Reloc.{Reloc}
use Rattle.obj.specs.declared.Split.{Split}
use Rattle.sections.specs.Image.{Image}
use Rattle.pieces.specs.declared.PieceSymbol.{PieceSymbol}
use Rattle.pieces.specs.declared.PieceReloc.{PieceReloc}
use Rattle.pieces.specs.Questions.{has}
use Rattle.splits.specs.Questions.{is_common}
use Rattle.walk.specs.Walk.{passed_over, entry_of, add_symbol, add_symbols, reloc_entry, add_relocs}

-- an entry has its symbol's number
either : (t : Bool) (a b : PieceSymbol) (i : ℕ) → a.symbol ≡ i → b.symbol ≡ i → (cond t a b).symbol ≡ i
either true a b i p q = p
either false a b i p q = q

pub entry_symbol : (unit place : ℕ) (s : Split) (i : ℕ) (y : Symbol) → (entry_of unit place s i y).symbol ≡ i
unfolding entry_of
entry_symbol unit place s i y = either (is_common s) _ _ i refl refl

-- ---- a symbol
module _ (image : Image) (unit place : ℕ) (s : Split) (out : List PieceSymbol) (i : ℕ) (y : Symbol) (name : List ℕ)
    (ey : y ≡ image.symbol i) (en : name ≡ image.name y.name) where
  tested : (passed_over name s y || has unit i out) ≡ (passed_over (image.name (image.symbol i).name) s (image.symbol i) || has unit i out)
  tested = ap₂ (λ (l : List ℕ) (z : Symbol). passed_over l s z || has unit i out) (en ∙ ap (λ (z : Symbol). image.name z.name) ey) ey

  pub symbol_passed : (passed_over name s y || has unit i out) ≡ true → out ≡ add_symbol image unit place s out i
  unfolding add_symbol
  symbol_passed t = sym (ap (λ (b : Bool). cond b out (out ++ (entry_of unit place s i (image.symbol i) ∷ []))) (sym tested ∙ t))

  pub symbol_entered : (passed_over name s y || has unit i out) ≡ false → out ++ (entry_of unit place s i y ∷ []) ≡ add_symbol image unit place s out i
  unfolding add_symbol
  symbol_entered t =
      ap (λ (z : Symbol). out ++ (entry_of unit place s i z ∷ [])) ey
      ∙ sym (ap (λ (b : Bool). cond b out (out ++ (entry_of unit place s i (image.symbol i) ∷ []))) (sym tested ∙ t))

-- ---- a split's symbols
module _ (image : Image) (unit place : ℕ) (s : Split) where
  symbol_longer : (out : List PieceSymbol) (i : ℕ) → length out ≤ length (add_symbol image unit place s out i)
  unfolding add_symbol
  symbol_longer out i = go (passed_over (image.name (image.symbol i).name) s (image.symbol i) || has unit i out)
    where
      go : (t : Bool) → length out ≤ length (cond t out (out ++ (entry_of unit place s i (image.symbol i) ∷ [])))
      go true = omega arith
      go false = omega (arith, length-append out (entry_of unit place s i (image.symbol i) ∷ []))

  pub symbols_longer : (out : List PieceSymbol) (l : List ℕ) → length out ≤ length (add_symbols image unit place s out l)
  unfolding add_symbols
  symbols_longer out [] = omega arith
  symbols_longer out (i ∷ l) = let h = symbol_longer out i in let q = symbols_longer (add_symbol image unit place s out i) l in omega arith

  pub symbols_turn : (out : List PieceSymbol) (part : List ℕ) (i : ℕ) → i < length part
      → add_symbols image unit place s out (drop i part) ≡ add_symbols image unit place s (add_symbol image unit place s out (get_or part i 0)) (drop (i + 1) part)
  unfolding add_symbols
  symbols_turn out part i h = rw (add-one i, drop-cons part i 0 h)

  pub symbols_done : (out : List PieceSymbol) (part : List ℕ) (i : ℕ) → length part ≤ i → add_symbols image unit place s out (drop i part) ≡ out
  unfolding add_symbols
  symbols_done out part i h = rw (drop_of_length-le part h)

-- ---- a split's relocations
module _ (reloc : ℕ → Reloc) (place start : ℕ) where
  pub length_relocs : (out : List PieceReloc) (l : List ℕ) → length (add_relocs reloc place start out l) ≡ length out + length l
  unfolding add_relocs
  length_relocs out [] = omega arith
  length_relocs out (i ∷ l) =
      length_relocs (out ++ (reloc_entry place start i (reloc i) ∷ [])) l ∙ omega (arith, length-append out (reloc_entry place start i (reloc i) ∷ []))

  pub relocs_turn : (out : List PieceReloc) (part : List ℕ) (i : ℕ) → i < length part
      → add_relocs reloc place start out (drop i part) ≡ add_relocs reloc place start (out ++ (reloc_entry place start (get_or part i 0) (reloc (get_or part i 0)) ∷ [])) (drop (i + 1) part)
  unfolding add_relocs
  relocs_turn out part i h = rw (add-one i, drop-cons part i 0 h)

  pub relocs_done : (out : List PieceReloc) (part : List ℕ) (i : ℕ) → length part ≤ i → add_relocs reloc place start out (drop i part) ≡ out
  unfolding add_relocs
  relocs_done out part i h = rw (drop_of_length-le part h)
