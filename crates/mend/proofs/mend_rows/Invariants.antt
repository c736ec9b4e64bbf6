-- `mend::mend_rows`: the rows so far, and those that are left mended, are the mended table; so the lines. Only ends change.
-- Assumes nothing.
use Rattle.splits.specs.Table.{ends_rows, OnlyEnds}
use Rattle.mend.proofs.Turns.{Going}
use Rattle.mend.proofs.mend_rows.Given as goal

abbrev pub invariant-loop-i : goal.invariant-loop-i
invariant-loop-i l =
    Going l.section_ends (ends_rows l.initial.table) l.initial.lines (ends_rows l.table) l.lines l.i l.at
    × OnlyEnds l.initial.table l.table
