-- The loop of `gaps::clear_marks`: the marks of the names passed are gone, the others are as they were.
use lib.ListN.{take}
use Rattle.symbol_order.specs.Order.{symbol_of}
use Rattle.gaps.specs.Found.{Unmarked}
use Rattle.gaps.proofs.clear_marks.Given as goal

abbrev pub invariant-loop-n : goal.invariant-loop-n
invariant-loop-n l = Unmarked (symbol_of l.table.bytes.now l.table.places.now) (take l.n-index l.part) l.initial.marks l.marks
