-- `trim::find_falls`: the falls so far, and those that are left, are all falls.
use mathlib.Core.Path.{◌≡◌}
use lib.ListN.{take}
use Rattle.sections.specs.Image.{image_in}
use Rattle.splits.specs.Columns.{row_at}
use Rattle.splits.specs.Table.{columns_of, rows_of}
use Rattle.trim.specs.Trim.{falls_of}
use Rattle.trim.proofs.Falls.{falls_from}
use Rattle.sections.specs.Sections.{head_in}
use Rattle.trim.proofs.find_falls.Given as goal

abbrev pub invariant-loop-i : goal.invariant-loop-i
invariant-loop-i l =
    falls_from (image_in l.tables.obj) (head_in l.tables.obj) (row_at (columns_of l.splits)) l.splits.count l.i (take l.i l.falls)
    ≡ falls_of (image_in l.tables.obj) (head_in l.tables.obj) (rows_of l.splits)
