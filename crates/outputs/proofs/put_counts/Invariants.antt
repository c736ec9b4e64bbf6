-- Storing the counts that are left from here on stores them all.
use Rattle.std.proofs.Common.{◌≡◌, drop}
use Rattle.outputs.specs.Outputs.{store_counts}
use Rattle.outputs.proofs.put_counts.Given as goal

abbrev pub invariant-loop-k : goal.invariant-loop-k
invariant-loop-k l = store_counts l.k (drop l.k l.numbers) l.counts ≡ store_counts 0 l.numbers l.initial.counts
