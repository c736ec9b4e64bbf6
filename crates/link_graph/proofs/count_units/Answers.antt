-- `link_graph::count_units`: before the first turn, a turn at a unit that is new or has a node, and after the last one.
use Rattle.std.proofs.Common.{◌<◌, arith, rules, get_or, length, refl}
use Rattle.lists.proofs.All.{all_at}
use Rattle.link_graph.proofs.Nodes.{marked_blank, counting_new, counting_old, counting_done}
use Rattle.link_graph.proofs.Lent.{lent_same}
use Rattle.link_graph.proofs.count_units.Goals as goal
use Rattle.link_graph.proofs.count_units.Goals.{then-graph-unit, else-graph-unit}

pub loop-name-init : goal.loop-name-init
loop-name-init c = record { counting = record { few = omega arith; counts = refl; marked = marked_blank _ c.requires.blank }; lent = lent_same }

pub bounds-graph-unit : goal.bounds-graph-unit
bounds-graph-unit c = omega (arith, all_at c.loop-name.name-index 0 c.requires.named c.loop-name-test.true)

pub loop-name-preserved : goal.loop-name-preserved
loop-name-preserved c =
    let l = c.loop-name in
    let inside : get_or c.args.us.now l.name-index 0 < length l.graph.column.now = omega (arith, all_at l.name-index 0 c.requires.named c.loop-name-test.true) in
    elim c.if-graph-unit.branch [
      | then-graph-unit w ↦
          rw (w.graph-is, w.m-is) (record {
            counting = counting_new l.invariant.counting c.loop-name-test.true c.requires.few inside (omega arith) w.if-graph-unit.true;
            -- a slice of the graph was lent within the turn and came back: that it is still the one that the caller lent is found by search, and no fact says it by name
            lent = search rules;
          })
      | else-graph-unit w ↦ rw (w.graph-is, w.m-is) (record { counting = counting_old l.invariant.counting c.loop-name-test.true c.requires.few inside w.if-graph-unit.false; lent = l.invariant.lent })
    ]

pub returns-clause-counted : goal.returns-clause-counted
returns-clause-counted c = counting_done c.loop-name.invariant.counting c.loop-name-test.false (omega arith)
