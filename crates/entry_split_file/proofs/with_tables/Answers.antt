-- Its columns hold every table that is allowed.
use Rattle.std.proofs.Common.{rules, arith, length}
use Rattle.stage_splits.proofs.Laws.{room_low}
use Rattle.splits.proofs.Rows.{rows_long}
use Rattle.run_file.proofs.Columns.{names_stand}
use Rattle.entry_split_file.proofs.with_tables.Goals as goal

pub invariant_of-table : goal.invariant_of-table
invariant_of-table c =
    record {
      long = rows_long (omega (arith, c.room_of.ensures, room_low (length c.args.outputs.now.splits.now))) (search rules) (search rules) (search rules) (search rules);
      fits = omega arith;
    }

pub invariant_of-added : goal.invariant_of-added
invariant_of-added c = record { stand = names_stand (search rules) (search rules) (search rules) }
