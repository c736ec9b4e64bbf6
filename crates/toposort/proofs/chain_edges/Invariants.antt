-- `toposort::chain_edges`. Invariant: the edges from `i` on are chained.
use Rattle.toposort.proofs.Chains.{Chaining}
use Rattle.toposort.proofs.chain_edges.Given as goal

abbrev pub invariant-loop-i : goal.invariant-loop-i
invariant-loop-i l = Chaining l.from l.i l.heads l.chain
