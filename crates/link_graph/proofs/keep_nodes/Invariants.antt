-- `link_graph::keep_nodes`. Invariant: the nodes kept so far, and after them those of the numbers from `i` on, are all.
use Rattle.std.proofs.Common.{length, get_or}
use Rattle.symbol_order.specs.Keys.{unit_of}
use Rattle.link_graph.proofs.Chain.{Keeping}
use Rattle.link_graph.proofs.keep_nodes.Given as goal

abbrev pub invariant-loop-i : goal.invariant-loop-i
invariant-loop-i l = Keeping (λ k. get_or l.graph.column.now (unit_of l.unit_table.bytes.now l.unit_table.places.now k).name 0) (length l.unit_table.places.now) l.fn.s l.s l.i l.k
