-- The loop of `tables::check_records`: no record before k has a fault.
use Rattle.std.proofs.Common.{ℕ, ◌<◌, ◌≡◌}
use Rattle.obj.specs.Answers.{meaning}
use Rattle.tables.specs.Tables.{record_check}
use Rattle.tables.proofs.Loops.{Going}
use Rattle.tables.proofs.check_records.Given as goal

abbrev pub invariant-loop-k : goal.invariant-loop-k
invariant-loop-k g l =
    (fault : ℕ → ℕ) → ((k : ℕ) (r : _) → k < l.n → goal.F-post g l.check k r → meaning r ≡ record_check (fault k) k) → Going fault l.n l.k
