-- `link_graph::make_edges`: the edges of neighbours stand in front, and those of the chain are written behind them.
use Rattle.std.proofs.Common.{ap, arith, length}
use Rattle.link_graph.proofs.Graph.{few_kept, numbers_inside, edged}
use Rattle.link_graph.proofs.Lent.{edges_still}
use Rattle.link_graph.proofs.make_edges.Goals as goal

pub keep_nodes-k-requires : goal.keep_nodes-k-requires
keep_nodes-k-requires c =
    let t = c.args.tables.now in
    let same = ap length c.split_edges.ensures.others.column in
    (record { whole = t.whole; few = t.few_units; named = λ k h. omega (arith, same, c.requires.lent.named.records k h) }, numbers_inside c.requires)

pub link_nodes-requires : goal.link_nodes-requires
link_nodes-requires c =
    let front = rw c.split_edges.ensures.others.column at c.keep_nodes-k.ensures in
    omega (arith, few_kept c.requires front, c.split_edges.ensures.edges.small, c.args.tables.now.held.few)

pub returns-clause-edges : goal.returns-clause-edges
returns-clause-edges c =
    let front = rw c.split_edges.ensures.others.column at c.keep_nodes-k.ensures in
    let l = c.link_nodes in
    edged c.requires front c.split_edges.new.graph l.new.graph c.split_edges.ensures.edges l.ensures.starts l.ensures.goals

pub returns-clause-others : goal.returns-clause-others
returns-clause-others c = edges_still c.split_edges.ensures.others c.link_nodes.ensures.others
