-- `link_graph::keep_nodes`: a turn at a number with a node or without, and after the last one.
use Rattle.std.proofs.Common.{arith}
use Rattle.link_graph.proofs.Chain.{keeping_next, keeping_node, keeping_none, keeping_done}
use Rattle.link_graph.proofs.keep_nodes.Goals as goal
use Rattle.link_graph.proofs.keep_nodes.Goals.{in-Some, in_default}

pub node_at-requires : goal.node_at-requires
node_at-requires c = (c.requires.0, keeping_next c.loop-i.invariant (omega arith))

pub loop-i-preserved : goal.loop-i-preserved
loop-i-preserved c =
    elim c.match-node_at.branch [
      | in-Some w ↦ rw (w.s-is, w.k-is) (keeping_node c.loop-i.invariant (omega arith) w.in-Some.ensures.0 w.in-Some.ensures.1)
      | in_default w ↦ rw (w.s-is, w.k-is) (keeping_none c.loop-i.invariant (omega arith) w.in_default.ensures)
    ]

pub returns : goal.returns
returns c = record { is = keeping_done c.loop-i.invariant (omega arith); small = omega (arith, c.loop-i.invariant.few) }
