-- `link_graph::split_edges`. Invariant: the edges written, and after them those of the pairs from `i` on, are all; so at both ends.
use Rattle.splits.specs.Table.{rows_of}
use Rattle.link_graph.specs.Tables.{given_of, OnlyEdges}
use Rattle.link_graph.proofs.Edges.{Listing}
use Rattle.link_graph.proofs.split_edges.Given as goal

abbrev pub invariant-loop-i : goal.invariant-loop-i
invariant-loop-i l = record {
  listing : Listing (given_of l.tables).pointers (rows_of l.tables.splits) l.initial.graph.column.now l.graph.from.now l.graph.to.now l.i l.e;
  others : OnlyEdges l.initial.graph l.graph;
}
