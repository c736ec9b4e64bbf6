-- Columns beside tables whose bytes and number of records stay. Assumes nothing.
use mathlib.Core.Path.{sym, subst}
use mathlib.Core.List.{List}
use Prim.Native.Nat.{ℕ}
use Rattle.pieces.specs.declared.lent.PieceTables.{PieceTables}
use Rattle.pieces.specs.Tables.{SamePieces, SameSymbols}
use Rattle.piece_columns.specs.Columns.{Counted, Chained, CountedIn, ChainedIn, lasts_in, prevs_in}

module _ {a b : PieceTables} where
  pub counted_same : {counts : List ℕ} → SamePieces a b → CountedIn counts a → CountedIn counts b
  counted_same {counts} s c =
      subst (λ (l : List ℕ). Counted counts l b.made.pieces) (sym s.bytes) (subst (Counted counts a.pieces.now) (sym s.made) c)

  pub chained_same : (chains : List ℕ) → SameSymbols a b → ChainedIn chains a → ChainedIn chains b
  chained_same chains s c =
      subst (λ (l : List ℕ). Chained (lasts_in chains) (prevs_in chains) l b.made.symbols) (sym s.bytes)
      (subst (Chained (lasts_in chains) (prevs_in chains) a.symbols.now) (sym s.made) c)
