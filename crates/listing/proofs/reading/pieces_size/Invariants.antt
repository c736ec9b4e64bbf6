-- `listing::reading::pieces_size` meets its contract. Invariant: what is summed so far and what is left are the sum, and no piece adds 2^32 or more.
-- Assumes nothing.
use Rattle.pieces.specs.declared.Piece.{Piece}
use Rattle.listing.proofs.Sums.{Sum}
use Rattle.listing.specs.Lent.{listed_pieces}
use Rattle.listing.proofs.reading.pieces_size.Given as goal

abbrev pub invariant-loop-k : goal.invariant-loop-k
invariant-loop-k l = Sum (λ (p : Piece). p.unit) (λ (p : Piece). p.size) (listed_pieces l.lists) l.unit l.k l.sum
