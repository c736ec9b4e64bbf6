-- The graph that was lent stays the one that is lent, over several calls.
use mathlib.Core.Path.{◌∙◌, refl}
use Rattle.lists.proofs.Slices.{slice_same, slice_still}
use Rattle.link_graph.specs.declared.link_tables.LinkGraph.{LinkGraph}
use Rattle.link_graph.specs.Tables.{OnlyEdges, SameLent}

pub lent_same : {g : LinkGraph} → SameLent g g
lent_same = record { column = slice_same; nodes = slice_same; from = slice_same; to = slice_same }

pub lent_still : {g h i : LinkGraph} → SameLent g h → SameLent h i → SameLent g i
lent_still p q =
    record { column = slice_still p.column q.column; nodes = slice_still p.nodes q.nodes; from = slice_still p.from q.from; to = slice_still p.to q.to }

pub edges_same : {g : LinkGraph} → OnlyEdges g g
edges_same = record { column = refl; nodes = refl; count = refl; lent = lent_same }

pub edges_still : {g h i : LinkGraph} → OnlyEdges g h → OnlyEdges h i → OnlyEdges g i
edges_still p q = record { column = q.column ∙ p.column; nodes = q.nodes ∙ p.nodes; count = q.count ∙ p.count; lent = lent_still p.lent q.lent }
