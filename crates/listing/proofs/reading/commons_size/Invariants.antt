-- `listing::reading::commons_size` meets its contract. Invariant: what is summed so far and what is left are the sum, and no symbol adds 2^32 or more.
-- Assumes nothing.
use Rattle.pieces.specs.declared.PieceSymbol.{PieceSymbol}
use Rattle.listing.specs.Listing.{common_size}
use Rattle.listing.proofs.Sums.{Sum}
use Rattle.listing.specs.Lent.{listed_symbols, symbol_of}
use Rattle.listing.proofs.reading.commons_size.Given as goal

abbrev pub invariant-loop-k : goal.invariant-loop-k
invariant-loop-k l = Sum (λ (y : PieceSymbol). y.unit) (common_size (symbol_of l.tables.symbols.now)) (listed_symbols l.tables.lists.now) l.unit l.k l.sum
