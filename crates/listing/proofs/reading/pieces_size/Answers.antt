-- `listing::reading::pieces_size` meets its contract. Invariant: what is summed so far and what is left are the sum, and no piece adds 2^32 or more.
-- Assumes nothing.
use native.Mathlib.Omega.{arith}
use Rattle.pieces.specs.declared.Piece.{Piece}
use Rattle.listing.proofs.Sums.{sum_turn, sum_end}
use Rattle.pieces.specs.Pieces.{pieces_in}
use Rattle.listing.specs.Lent.{piece_on}
use Rattle.listing.proofs.reading.pieces_size.Goals as goal

pub loop-k-preserved : goal.loop-k-preserved
unfolding pieces_in
loop-k-preserved c = let a = c.args in let q = c.loop-k-test.true in sum_turn (λ (p : Piece). p.unit) (λ (p : Piece). p.size) (piece_on a.lists.now) a.lists.now.made.pieces a.unit c.loop-k.invariant q c.size_in-sum.ensures

pub returns : goal.returns
unfolding pieces_in
returns c = let a = c.args in sum_end (λ (p : Piece). p.unit) (λ (p : Piece). p.size) (piece_on a.lists.now) a.lists.now.made.pieces a.unit c.loop-k.invariant c.loop-k-test.false (omega arith)
