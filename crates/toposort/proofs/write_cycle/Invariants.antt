-- `toposort::write_cycle`. Invariant: the places from `left` to `k` are written, and the way up from `cur` has the rest.
use Rattle.toposort.proofs.Climb.{Writing}
use Rattle.toposort.proofs.write_cycle.Given as goal

abbrev pub invariant-loop-left : goal.invariant-loop-left
invariant-loop-left l = Writing l.nodes l.from l.k l.initial.table l.cur l.left l.table
