-- The loop of `name_table::take_names`: no name before i has a fault, and the columns hold those names.
use Rattle.std.specs.Prelude.{◌/◌, length}
use Rattle.tables.proofs.Loops.{Going}
use Rattle.name_table.specs.NameTable.{name_fault}
use Rattle.name_table.specs.Columns.{StoredIn, SameLent}
use Rattle.name_table.proofs.take_names.Given as goal

abbrev pub invariant-loop-i : goal.invariant-loop-i
invariant-loop-i l = record {
  going : Going (name_fault l.ends l.bytes) (length l.ends / 2) l.i;
  stored : StoredIn l.ends l.bytes l.columns l.i;
  lent : SameLent l.initial.columns l.columns;
}
