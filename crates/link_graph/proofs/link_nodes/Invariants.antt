-- `link_graph::link_nodes`. Invariant: the edges written, and after them those from the nodes from `i` on, are all; so at both ends.
use Rattle.std.proofs.Common.{◌≡◌, ◌+◌, ◌++◌, map, take, drop}
use Rattle.link_graph.specs.Graph.{UnitEdge, links}
use Rattle.link_graph.specs.Tables.{OnlyEdges}
use Rattle.link_graph.proofs.link_nodes.Given as goal

abbrev pub invariant-loop-i : goal.invariant-loop-i
invariant-loop-i l = record {
  starts : take (l.e + l.i) l.graph.from.now ++ map (λ (x : UnitEdge). x.from) (links (drop l.i l.s)) ≡ take l.e l.initial.graph.from.now ++ map (λ (x : UnitEdge). x.from) (links l.s);
  goals : take (l.e + l.i) l.graph.to.now ++ map (λ (x : UnitEdge). x.to) (links (drop l.i l.s)) ≡ take l.e l.initial.graph.to.now ++ map (λ (x : UnitEdge). x.to) (links l.s);
  others : OnlyEdges l.initial.graph l.graph;
}
