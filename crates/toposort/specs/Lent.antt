-- The graph that lent columns mean.
use Rattle.toposort.specs.Search.{Graph}
use Rattle.toposort.specs.declared.edge_table.EdgeTable.{EdgeTable}

abbrev pub graph_in : EdgeTable → Graph
graph_in t = record { count = t.count; from = t.from.now; to = t.to.now }
