-- `toposort::cycle_length`. Invariant: `k` nodes are counted, and the way up from `cur` has the rest. The measure is what is left of the
-- 1,025 nodes that the way up can have.
use Rattle.std.specs.Prelude.{◌-◌}
use Rattle.toposort.proofs.Climb.{Climbing}
use Rattle.toposort.proofs.cycle_length.Given as goal

abbrev pub invariant-loop-cur : goal.invariant-loop-cur
invariant-loop-cur l = Climbing 1025 l.nodes l.top l.from l.cur l.k

abbrev pub decreases-loop-cur : goal.decreases-loop-cur
decreases-loop-cur l = 1026 - l.k
