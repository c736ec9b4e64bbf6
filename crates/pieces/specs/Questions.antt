-- What is asked of the output so far: how many pieces a unit has, and whether it has a symbol. Nothing of it is state of the walk.
use Rattle.std.specs.Prelude.{ℕ, suc, List, [], ◌∷◌, Bool, false, cond, ◌&&◌, ◌||◌, eqb}
use Rattle.pieces.specs.declared.Piece.{Piece}
use Rattle.pieces.specs.declared.PieceSymbol.{PieceSymbol}

-- how many of the pieces are the unit's: the next one's "number in its unit"
unfoldable pub count_of : (unit : ℕ) → List Piece → ℕ
count_of unit [] = 0
count_of unit (p ∷ l) = cond (eqb p.unit unit) (suc (count_of unit l)) (count_of unit l)

-- the unit has the symbol already: "each once per unit"
unfoldable pub has : (unit symbol : ℕ) → List PieceSymbol → Bool
has unit symbol [] = false
has unit symbol (y ∷ l) = (eqb y.unit unit && eqb y.symbol symbol) || has unit symbol l
