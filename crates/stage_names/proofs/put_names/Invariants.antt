-- `stage_names::put_names` meets its contract. Invariant: putting the names that are left, behind those that are there, is putting all.
-- Assumes nothing.
use Rattle.std.specs.Prelude.{length}
use Rattle.stage_names.specs.Output.{SameLent}
use Rattle.stage_names.proofs.Fits.{Putting}
use Rattle.stage_names.proofs.put_names.Given as goal

abbrev pub invariant-loop-i : goal.invariant-loop-i
invariant-loop-i l = record {
  putting : Putting l.names.bytes.now l.names.places.now l.names.lengths.now (length l.names.places.now) l.first l.at l.initial.output.ends.now l.initial.output.bytes.now l.output.ends.now l.output.bytes.now l.end l.i;
  lent : SameLent l.initial.output l.output;
}
