-- How 83 is found where no bytes are lent to lay pieces on, as in (n): the pieces by section and address, each compared with the one before it that reaches
-- farthest. Where the earlier ones agree with each other, it then agrees with all of them. The theorem: `sweep_finds` of proofs/Sweep.antt.
use Rattle.std.specs.Prelude.{ℕ, ◌+◌, List, [], ◌∷◌, Bool, false, cond, ◌&&◌, ◌||◌, eqb, leb, length}
use Rattle.lists.specs.Rows.{some}
use Rattle.lists.specs.Sort.{sort_by}
use Rattle.obj.specs.Parts.{Part}
use Rattle.join.specs.Join.{addresses, differ_at}
use Rattle.piece_order.specs.Order.{key_of}

abbrev pub end_of : Part → ℕ
end_of p = p.address + length p.bytes

-- two pieces of one section differ where both lie
unfoldable pub unequal : (far p : Part) → Bool
unequal far p = some (λ x. differ_at x far p) (addresses p)

-- of the farthest so far and the next piece, the one that reaches farther; in another section it is the next one
unfoldable pub farther : (far p : Part) → Part
farther far p = cond (eqb far.section p.section && leb (end_of p) (end_of far)) far p

-- the pieces that are left, with the farthest of those passed
unfoldable pub sweep_from : (far : Part) → List Part → Bool
sweep_from far [] = false
sweep_from far (p ∷ later) = unequal far p || sweep_from (farther far p) later

unfoldable pub sweep : List Part → Bool
sweep [] = false
sweep (p ∷ later) = sweep_from p later

abbrev pub sweep_all : List Part → Bool
sweep_all parts = sweep (sort_by key_of parts)
