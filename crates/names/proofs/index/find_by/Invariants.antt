-- `names::index::find_by` meets its contract. Invariant: the names behind those that are left are passed, and `cur` is one more than the
-- number of the last that is left in the bucket of x; the measure is `cur`, since a chain goes down. Assumes nothing.
use Rattle.std.proofs.Common.{ℕ, List}
use Rattle.names.specs.Index.{AskedBy}
use Rattle.names.proofs.Indexes.{Search}
use Rattle.names.proofs.index.find_by.Given as goal

abbrev pub invariant-loop-cur : goal.invariant-loop-cur
invariant-loop-cur g l =
    (names : List (List ℕ)) → AskedBy (goal.F-pre g l.is_name) (goal.F-post g l.is_name) names l.index.heads.now l.index.chain.now l.x → Search names l.x l.cur

abbrev pub decreases-loop-cur : goal.decreases-loop-cur
decreases-loop-cur g l = l.cur
