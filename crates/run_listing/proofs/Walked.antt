-- What an accepted walk gives: its pieces' names are those of sections that are there or of renames, its symbols and relocations are numbers of the input's.
-- Assumes nothing.
use Prim.Native.Nat.{ℕ, ◌<◌}
use mathlib.Core.Path.{◌≡◌, refl, subst}
use mathlib.Core.Bool.{Bool, true, false, cond, ◌||◌}
use mathlib.Core.List.{List, [], ◌∷◌, ◌++◌}
use native.Mathlib.Omega.{arith}
use borrow.Author.Tests.{eqb-false}
use lib.Dec.{eqb}
use lib.ListN.{length}
use Rattle.lists.specs.Outcome.{accepted}
use Rattle.lists.specs.Sort.{All, none, each}
use Rattle.lists.proofs.All.{all_append, all_keep, all_sort}
use Rattle.lists.proofs.Outcomes.{same_accepted}
use Rattle.lists.proofs.Rising.{numbers-below}
use Rattle.obj.specs.declared.Split.{Split}
use Rattle.symbol_order.specs.Order.{symbols_of}
use Rattle.relocs.proofs.Laws.{relocs_there}
use Rattle.sections.specs.Image.{Image}
use Rattle.pieces.specs.declared.PieceSymbol.{PieceSymbol}
use Rattle.pieces.specs.declared.PieceReloc.{PieceReloc}
use Rattle.pieces.specs.Questions.{count_of, has}
use Rattle.walk.specs.Walk.{Input, Output, passed_over, entry_of, add_symbol, add_symbols, split_symbols, add_relocs, split_relocs, piece_of, given, on_kept, on_split, walk, nothing}
use Rattle.walk.proofs.Adding.{entry_symbol}
use Rattle.restore.proofs.Steps.{Reached, split_inv, kept_inv}
use Rattle.restore.proofs.Walked.{sections_keep}
use Rattle.splits.specs.Questions.{is_common, is_skipped}
use Rattle.lists.proofs.Among.{all_find}

-- names, symbols and relocations are below these counts
pub record Below (names count most : ℕ) (o : Output) : Type 0 where
  pub pieces : All (λ p. p.name < names) o.pieces
  pub symbols : All (λ y. y.symbol < count) o.symbols
  pub relocs : All (λ r. r.relocation < most) o.relocs

-- ---- symbols

module _ (image : Image) (unit place : ℕ) (s : Split) where
  symbol_below : (i : ℕ) → i < image.count → (out : List PieceSymbol) → All (λ y. y.symbol < image.count) out
      → All (λ y. y.symbol < image.count) (add_symbol image unit place s out i)
  unfolding add_symbol
  symbol_below i h out p = go (passed_over (image.name (image.symbol i).name) s (image.symbol i) || has unit i out)
    where
      go : (b : Bool) → All (λ y. y.symbol < image.count) (cond b out (out ++ (entry_of unit place s i (image.symbol i) ∷ [])))
      go true = p
      go false = all_append p (each (omega (arith, entry_symbol unit place s i (image.symbol i))) none)

  symbols_below : {l : List ℕ} → All (λ i. i < image.count) l → (out : List PieceSymbol) → All (λ y. y.symbol < image.count) out
      → All (λ y. y.symbol < image.count) (add_symbols image unit place s out l)
  unfolding add_symbols
  symbols_below none out p = p
  symbols_below (each {x = i} h q) out p = symbols_below q (add_symbol image unit place s out i) (symbol_below i h out p)

  split_symbols_lem : (n : ℕ) → All (λ i. i < image.count) (split_symbols image n s)
  unfolding symbols_of
  split_symbols_lem n = all_keep _ (all_sort _ (all_keep _ (numbers-below image.count)))

-- ---- relocations
relocs_below : (t : Input) (place start : ℕ) {l : List ℕ} → All (λ i. i < t.relocs) l → (out : List PieceReloc) → All (λ r. r.relocation < t.relocs) out
    → All (λ r. r.relocation < t.relocs) (add_relocs t.reloc place start out l)
unfolding add_relocs
relocs_below t place start none out p = p
relocs_below t place start (each {x = i} h q) out p = relocs_below t place start q _ (all_append p (each h none))

-- ---- the walk
module _ (t : Input) (names : ℕ) (heads : (n : ℕ) → n < t.sections.count → (t.sections.head n).name < names)
    (renames : All (λ s. (s.rename ≡ 65535 → ⊥) → s.rename < names) t.splits) where
  abbrev Fine : Output → Type 0
  Fine = Below names t.image.count t.relocs

  -- a piece has the name of its section, or its split's own
  piece_below : (n unit number alignment : ℕ) (s : Split) → n < t.sections.count → Reached t n s
      → (piece_of (t.sections.head n) n unit number alignment s).name < names
  unfolding piece_of
  piece_below n unit number alignment s h reached = go (eqb s.rename 65535) refl
    where
      go : (b : Bool) → eqb s.rename 65535 ≡ b → cond b (t.sections.head n).name s.rename < names
      go true e = heads n h
      go false e = all_find s renames reached.listed (eqb-false _ _ e)

  given_fine : (n unit alignment : ℕ) (s : Split) → n < t.sections.count → Reached t n s → (o : Output) → Fine o → Fine (given t n unit alignment s o)
  unfolding given
  given_fine n unit alignment s h reached o f = record {
    pieces = with_piece (is_common s);
    symbols = symbols_below t.image unit (length o.pieces) s (split_symbols_lem t.image unit (length o.pieces) s n) o.symbols f.symbols;
    relocs = with_relocs (is_common s);
  }
    where
      with_piece : (b : Bool) → All (λ p. p.name < names) (o.pieces ++ cond b [] (piece_of (t.sections.head n) n unit (count_of unit o.pieces) alignment s ∷ []))
      with_piece true = all_append f.pieces none
      with_piece false = all_append f.pieces (each (piece_below n unit (count_of unit o.pieces) alignment s h reached) none)

      with_relocs : (b : Bool)
          → All (λ r. r.relocation < t.relocs) (cond b o.relocs (add_relocs t.reloc (length o.pieces) s.start o.relocs (split_relocs t.reloc t.relocs n s)))
      with_relocs true = f.relocs
      with_relocs false = relocs_below t (length o.pieces) s.start (all_keep _ (relocs_there t.reloc t.relocs n)) o.relocs f.relocs

  split_fine : (n : ℕ) → n < t.sections.count → (s : Split) → Reached t n s → (current next : ℕ) (o o' : Output) → on_split t n current next s o ≡ accepted o' → Fine o → Fine o'
  split_fine n h s reached current next o o' e f = go (is_skipped s) (split_inv t n current s o o' next e).rest
    where
      go : (b : Bool) → cond b (accepted o) (on_kept t n current s o) ≡ accepted o' → Fine o'
      go true q = subst Fine (same_accepted q) f
      go false q = let k = kept_inv t n current s o o' q in subst Fine k.passed.is (given_fine n _ _ s h reached o f)

  -- THEOREM: an accepted walk gives names, symbols and relocations that are there
  pub walk-below : (out : Output) → walk t ≡ accepted out → Below names t.image.count t.relocs out
  unfolding walk
  walk-below out e =
      sections_keep t Fine 0 t.sections.count (λ m a b. split_fine m (omega arith)) nothing out e (record { pieces = none; symbols = none; relocs = none })
