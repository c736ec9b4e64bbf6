-- `toposort::next_move`: each way out has the tests of the definition, and the chain gives the next edge.
use mathlib.Core.Path.{◌≡◌}
use lib.ListN.{length}
use native.Mathlib.Omega.{arith}
use borrow.Author.Tests.{eq-eqb, ne_eqb}
use Rattle.toposort.specs.Search.{next_edge, move_of}
use Rattle.toposort.proofs.next_move.Goals as goal

pub returns-then-next-graph : goal.returns-then-next-graph
unfolding move_of
returns-then-next-graph c = simp (eq-eqb _ _ c.if-cur-eq-ROOT.true, eq-eqb _ _ c.if-next-graph.true)

pub returns-then-cur-eq-ROOT : goal.returns-then-cur-eq-ROOT
unfolding move_of
returns-then-cur-eq-ROOT c = simp (eq-eqb _ _ c.if-cur-eq-ROOT.true, ne_eqb _ _ c.if-next-graph.false)

pub returns-in-None : goal.returns-in-None
unfolding move_of
returns-in-None c = simp (ne_eqb _ _ c.if-cur-eq-ROOT.false, eq-eqb _ _ c.in-None.ensures)

pub returns-in-Some : goal.returns-in-Some
unfolding move_of
returns-in-Some c =
    let e = c.in-Some.ensures in
    rw e.0 (simp (ne_eqb _ _ c.if-cur-eq-ROOT.false, ne_eqb _ _ (λ (q : next_edge c.args.graph.now.from.now c.args.cur c.args.next ≡ length c.args.graph.now.from.now). omega arith)))
