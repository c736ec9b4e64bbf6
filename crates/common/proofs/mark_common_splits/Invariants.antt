-- The loop of `common::mark_common_splits`: the splits before this one are marked, and those from it on are as they were.
use Rattle.std.proofs.Common.{◌≡◌, ◌++◌, map, take, drop}
use Rattle.common.specs.Common.{marked}
use Rattle.common.proofs.mark_common_splits.Given as goal

abbrev pub invariant-loop-s : goal.invariant-loop-s
invariant-loop-s l = l.splits ≡ map (marked l.from.section l.from.address) (take l.s-index l.initial.splits) ++ drop l.s-index l.initial.splits
