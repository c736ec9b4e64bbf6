-- `toposort::write_cycle`: before the first turn, a turn, and after the last one.
use Rattle.toposort.proofs.Climb.{write_start, write_more, write_done}
use Rattle.toposort.proofs.write_cycle.Goals as goal

pub loop-left-init : goal.loop-left-init
loop-left-init c = write_start _ _ _ _ c.requires.0 c.requires.2

pub loop-left-preserved : goal.loop-left-preserved
loop-left-preserved c =
    rw c.parent_of-cur.ensures
    (write_more _ _ _ _ _ _ _ c.loop-left.invariant c.loop-left-test.true c.requires.1)

pub returns : goal.returns
returns c = write_done _ _ _ _ _ _ _ c.loop-left.invariant c.loop-left-test.false
