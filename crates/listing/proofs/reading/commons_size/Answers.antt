-- `listing::reading::commons_size` meets its contract. Invariant: what is summed so far and what is left are the sum, and no symbol adds 2^32 or more.
-- Assumes nothing.
use native.Mathlib.Omega.{arith}
use Rattle.pieces.specs.declared.PieceSymbol.{PieceSymbol}
use Rattle.listing.specs.Listing.{common_size}
use Rattle.listing.proofs.Sums.{sum_turn, sum_end}
use Rattle.pieces.specs.Pieces.{symbols_in}
use Rattle.listing.specs.Lent.{symbol_on, symbol_of}
use Rattle.listing.proofs.reading.commons_size.Goals as goal

pub loop-k-preserved : goal.loop-k-preserved
unfolding symbols_in
loop-k-preserved c = let a = c.args in let q = c.loop-k-test.true in sum_turn (λ (y : PieceSymbol). y.unit) (common_size (symbol_of a.tables.now.symbols.now)) (symbol_on a.tables.now.lists.now) a.tables.now.lists.now.made.symbols a.unit c.loop-k.invariant q c.common_in-sum.ensures

pub returns : goal.returns
unfolding symbols_in
returns c = let a = c.args in sum_end (λ (y : PieceSymbol). y.unit) (common_size (symbol_of a.tables.now.symbols.now)) (symbol_on a.tables.now.lists.now) a.tables.now.lists.now.made.symbols a.unit c.loop-k.invariant c.loop-k-test.false (omega arith)
