-- `toposort::next_edge`: the chain holds the node's first edge, and after each edge the next one of its node.
use Rattle.toposort.proofs.Chains.{next_first, next_later, next_small, found}
use Rattle.toposort.proofs.next_edge.Goals as goal

pub returns-then-start-eq0 : goal.returns-then-start-eq0
returns-then-start-eq0 c =
    let f = c.requires in
    found _ _ _ _ (next_first _ _ _ _ _ f c.if-start-eq0.true) (next_small _ _ _ _ _ f) c.edge_of.ensures

pub returns : goal.returns
returns c =
    let f = c.requires in
    found _ _ _ _ (next_later _ _ _ _ _ f c.if-start-eq0.false) (next_small _ _ _ _ _ f) c.edge_of-2.ensures
