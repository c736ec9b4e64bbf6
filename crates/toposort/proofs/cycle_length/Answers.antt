-- `toposort::cycle_length`: before the first turn, a turn, and after the last one.
use Rattle.toposort.proofs.Climb.{climb-start, climb_more, climb_done}
use Rattle.toposort.proofs.cycle_length.Goals as goal

pub loop-cur-init : goal.loop-cur-init
loop-cur-init c = climb-start _ _ _ c.requires

pub loop-cur-preserved : goal.loop-cur-preserved
loop-cur-preserved c =
    rw c.parent_of-cur.ensures
    (climb_more _ _ _ _ _ _ c.loop-cur.invariant c.loop-cur-test.true c.requires.inside)

pub returns : goal.returns
returns c = climb_done _ _ _ _ _ _ c.loop-cur.invariant c.loop-cur-test.false
