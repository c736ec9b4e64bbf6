-- `symbols::highest_of`. Invariant: the larger of the highest so far and the highest of what is left is the highest of all.
use Rattle.std.specs.Prelude.{◌≡◌, max}
use Rattle.symbol_order.specs.Order.{symbol_of}
use Rattle.symbols.proofs.Laws.{highest_from}
use Rattle.symbols.proofs.highest_of.Given as goal

abbrev pub invariant-loop-k : goal.invariant-loop-k
invariant-loop-k l = max l.most (highest_from (symbol_of l.table.bytes.now l.table.places.now) l.part l.k-index) ≡ highest_from (symbol_of l.table.bytes.now l.table.places.now) l.part 0
