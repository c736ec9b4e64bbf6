-- The columns beside the walk's output. `counts` has, for each unit, how many pieces it has. `heads` has, for each symbol, one more than the place of its
-- last entry among the piece symbols, and `prevs`, for each entry, the same of the entry before it of the same symbol; 0 ends a chain. What they answer
-- is what looking through the output answers: `count_of` and `has` of pieces.
use Rattle.std.specs.Prelude.{ℕ, zero, suc, ◌+◌, ◌*◌, ◌≤◌, ◌<◌, ◌≡◌, List, [], ◌∷◌, ◌++◌, cond, eqb, length, get_or, take, drop}
use Rattle.pieces.specs.declared.Piece.{Piece}
use Rattle.pieces.specs.declared.PieceSymbol.{PieceSymbol}
use Rattle.pieces.specs.declared.lent.PieceTables.{PieceTables}
use Rattle.pieces.specs.Pieces.{pieces_in, symbols_in, symbol_at}
use Rattle.pieces.specs.Tables.{AddedPiece, AddedSymbol}
use Rattle.pieces.specs.Questions.{count_of}

-- each unit's pieces among the first k are counted
pub record Counted (counts out : List ℕ) (k : ℕ) : Type 0 where
  pub each : (unit : ℕ) → unit < length counts → get_or counts unit 0 ≡ count_of unit (pieces_in out k)

-- piece symbol i of a table
abbrev pub entry_at : List ℕ → ℕ → PieceSymbol
entry_at out i = symbol_at out (12 * i)

-- one more than the last place below k that holds the symbol, or 0
unfoldable pub last_of : (ℕ → PieceSymbol) → (symbol k : ℕ) → ℕ
last_of entry symbol zero = 0
last_of entry symbol (suc k) = cond (eqb (entry k).symbol symbol) (suc k) (last_of entry symbol k)

-- two columns in one: the heads of 4,096 symbols, then the rest
unfoldable pub lasts_in : List ℕ → List ℕ
lasts_in chains = take 4096 chains

unfoldable pub prevs_in : List ℕ → List ℕ
prevs_in chains = drop 4096 chains

-- the first k piece symbols are chained
pub record Chained (heads prevs out : List ℕ) (k : ℕ) : Type 0 where
  pub head : (symbol : ℕ) → symbol < length heads → get_or heads symbol 0 ≡ last_of (entry_at out) symbol k
  pub prev : (i : ℕ) → i < k → get_or prevs i 0 ≡ last_of (entry_at out) (entry_at out i).symbol i
  pub room : k ≤ length prevs
  pub held : 12 * k ≤ length out

-- .. by the two columns in one
abbrev pub ChainedOf : (chains out : List ℕ) → (k : ℕ) → Type 0
ChainedOf chains out k = Chained (lasts_in chains) (prevs_in chains) out k

-- the units' counts, and the chains, are those of what the tables hold
abbrev pub CountedIn : (counts : List ℕ) → PieceTables → Type 0
CountedIn counts t = Counted counts t.pieces.now t.made.pieces

abbrev pub ChainedIn : (chains : List ℕ) → PieceTables → Type 0
ChainedIn chains t = ChainedOf chains t.symbols.now t.made.symbols

-- a piece was put behind the first k, and counted
pub record PutPiece (counts before after : List ℕ) (k : ℕ) (p : Piece) : Type 0 where
  pub more : pieces_in after (k + 1) ≡ pieces_in before k ++ (p ∷ [])
  pub counted : Counted counts after (k + 1)

-- a piece symbol was put behind the first k, and chained
pub record PutSymbol (heads prevs before after : List ℕ) (k : ℕ) (y : PieceSymbol) : Type 0 where
  pub more : symbols_in after (k + 1) ≡ symbols_in before k ++ (y ∷ [])
  pub chained : Chained heads prevs after (k + 1)

-- .. in the tables: a piece was put behind the others, and counted
pub record PushedPiece (counts : List ℕ) (before after : PieceTables) (p : Piece) : Type 0 where
  pub added : AddedPiece before after p
  pub counted : CountedIn counts after

-- a piece symbol was put behind the others, and chained
pub record PushedSymbol (chains : List ℕ) (before after : PieceTables) (y : PieceSymbol) : Type 0 where
  pub added : AddedSymbol before after y
  pub chained : ChainedIn chains after
