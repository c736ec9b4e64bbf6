-- `link_graph::link_nodes`: a turn writes both ends of an edge, and after the last one none is left.
use Rattle.std.proofs.Common.{◌≡◌, ◌∙◌, sym, arith, rules, refl}
use Rattle.link_graph.specs.Graph.{UnitEdge}
use Rattle.link_graph.proofs.Chain.{link_written, links_end}
use Rattle.link_graph.proofs.link_nodes.Goals as goal

pub loop-i-preserved : goal.loop-i-preserved
loop-i-preserved c =
    let l = c.loop-i in
    let s = c.args.s.now in
    let e = c.args.graph.now.edges in
    record {
      starts = link_written (λ (x : UnitEdge). x.from) s e l.i (omega arith) l.graph.from.now _ (omega arith) refl ∙ l.invariant.starts;
      goals = link_written (λ (x : UnitEdge). x.to) s e l.i (omega arith) l.graph.to.now _ (omega arith) refl ∙ l.invariant.goals;
      -- a slice of the graph was lent within the turn and came back: that it is still the one that the caller lent is found by search, and no fact says it by name
      others = record { column = l.invariant.others.column; nodes = l.invariant.others.nodes; count = l.invariant.others.count; lent = search rules };
    }

pub returns-clause-starts : goal.returns-clause-starts
returns-clause-starts c =
    let l = c.loop-i in
    let done : c.saturating_sub-more.result ≡ l.i = omega arith in
    rw done (sym (links_end (λ (x : UnitEdge). x.from) c.args.s.now c.args.graph.now.edges l.i (omega arith) _) ∙ l.invariant.starts)

pub returns-clause-goals : goal.returns-clause-goals
returns-clause-goals c =
    let l = c.loop-i in
    let done : c.saturating_sub-more.result ≡ l.i = omega arith in
    rw done (sym (links_end (λ (x : UnitEdge). x.to) c.args.s.now c.args.graph.now.edges l.i (omega arith) _) ∙ l.invariant.goals)
