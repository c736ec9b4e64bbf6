-- Its columns hold every table that is allowed.
use Rattle.std.proofs.Common.{rules, arith}
use Rattle.splits.proofs.Rows.{rows_long}
use Rattle.run_file.proofs.Columns.{names_stand}
use Rattle.print_run.proofs.print_with_tables.Goals as goal

pub invariant_of-table : goal.invariant_of-table
invariant_of-table g c = record { long = rows_long (omega arith) (search rules) (search rules) (search rules) (search rules); fits = omega arith }

pub invariant_of-added : goal.invariant_of-added
invariant_of-added g c = record { stand = names_stand (search rules) (search rules) (search rules) }
