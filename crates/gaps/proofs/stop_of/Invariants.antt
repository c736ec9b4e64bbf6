-- The loop of `gaps::stop_of`: the names of the unstripped symbols passed are marked, and the symbols that are left end the gap where all of the part do.
use Rattle.symbol_order.specs.Order.{symbol_of}
use Rattle.gaps.proofs.Marks.{Passing}
use Rattle.gaps.proofs.stop_of.Given as goal

abbrev pub invariant-loop-j : goal.invariant-loop-j
invariant-loop-j l = Passing (symbol_of l.table.bytes.now l.table.places.now) l.current l.part l.marks l.j
