-- `toposort::search`. Invariant: `Searching` of Walk.antt: what is left to run gives what the whole search gives, and the table holds the nodes
-- closed so far. The measure is the steps that are left, a sum over the records.
use Rattle.toposort.specs.Lent.{graph_in}
use Rattle.toposort.proofs.Nodes.{total, pot}
use Rattle.toposort.proofs.Walk.{Searching}
use Rattle.toposort.proofs.search.Given as goal

abbrev pub invariant-loop-nodes : goal.invariant-loop-nodes
invariant-loop-nodes l = Searching (graph_in l.graph) l.initial.table l.table l.nodes l.left l.cur

abbrev pub decreases-loop-nodes : goal.decreases-loop-nodes
decreases-loop-nodes l = total pot l.nodes
