-- The loop of `load::load_records`: the columns are ready for the next record, and loading what is left from here, into what they mean, is loading the whole file.
use Rattle.std.proofs.Common.{◌-◌, length}
use Rattle.load.specs.Reading.{loaded_in, SameColumns, ReadyIn}
use Rattle.load.proofs.Turns.{Going}
use Rattle.load.proofs.load_records.Given as goal

abbrev pub invariant-loop-at : goal.invariant-loop-at
invariant-loop-at l = record {
  same : SameColumns l.initial.columns l.columns;
  ready : ReadyIn l.columns;
  going : Going l.columns.most l.columns.file.now l.at l.r (loaded_in l.columns);
}

abbrev pub decreases-loop-at : goal.decreases-loop-at
decreases-loop-at l = length l.columns.file.now - l.at
