-- `link_graph::count_units`. Invariant: counting the units from here on, after the nodes so far, is counting all; the column has these nodes.
use Rattle.link_graph.specs.Tables.{SameLent}
use Rattle.link_graph.proofs.Nodes.{Counting}
use Rattle.link_graph.proofs.count_units.Given as goal

abbrev pub invariant-loop-name : goal.invariant-loop-name
invariant-loop-name l = record {
  counting : Counting l.us l.graph.nodes.now l.graph.column.now l.name-index l.m;
  lent : SameLent l.initial.graph l.graph;
}
