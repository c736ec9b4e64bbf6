-- `toposort::toposort`: each way out is one of the definition's, and the edges that pass the first test are those that the chaining and the
-- search ask for.
use mathlib.Core.Path.{refl}
use Rattle.toposort.proofs.Sorting.{sorts_bad, sorts_short, sorts_searched, sound, chainable}
use Rattle.toposort.proofs.toposort.Goals as goal

pub returns-in-Some : goal.returns-in-Some
returns-in-Some c = sorts_bad _ c.requires _ c.in-Some.ensures.0 c.in-Some.ensures.1 _

pub returns-then-table-graph : goal.returns-then-table-graph
returns-then-table-graph c = sorts_short _ c.requires c.in_default.ensures _ c.if-table-graph.true

pub chain_edges-requires : goal.chain_edges-requires
chain_edges-requires c = chainable _ c.requires c.in_default.ensures _ _ refl refl

pub search-requires : goal.search-requires
search-requires c =
    record {
      sound = sound _ c.requires c.in_default.ensures;
      chained = c.chain_edges.ensures;
      room = c.if-table-graph.false;
    }

pub returns : goal.returns
returns c = sorts_searched _ c.requires c.in_default.ensures _ c.if-table-graph.false _ _ c.search.ensures
