-- `mend::check_ends`: checking the rows that are left is checking the table. Assumes nothing.
use mathlib.Core.Path.{◌≡◌}
use Prim.Native.Nat.{◌-◌}
use Rattle.lists.specs.Rows.{tabulate}
use Rattle.splits.specs.Columns.{row_at}
use Rattle.splits.specs.Table.{columns_of, rows_of}
use Rattle.mend.specs.Mend.{mend_check}
use Rattle.mend.proofs.check_ends.Given as goal

abbrev pub invariant-loop-i : goal.invariant-loop-i
invariant-loop-i l =
    mend_check l.section_ends (tabulate (row_at (columns_of l.splits)) l.i (l.splits.count - l.i)) ≡ mend_check l.section_ends (rows_of l.splits)
