-- `trim::cut_sections`: cutting the sections that are left, in the rows as they are, is cutting all in the rows as they were;
-- only ends change.
use mathlib.Core.Path.{◌≡◌}
use Prim.Native.Nat.{◌-◌}
use lib.ListN.{length}
use Rattle.sections.specs.Image.{image_in}
use Rattle.splits.specs.Table.{ends_rows, OnlyEnds}
use Rattle.trim.specs.Trim.{cut_from}
use Rattle.trim.specs.Lent.{sections_in}
use Rattle.trim.proofs.cut_sections.Given as goal

abbrev pub invariant-loop-k : goal.invariant-loop-k
invariant-loop-k l =
    (cut_from (image_in l.tables.obj) (sections_in l.tables.obj l.tables.image) (length l.tables.obj.heads.places.now - l.k) l.k (ends_rows l.table)
    ≡ cut_from (image_in l.tables.obj) (sections_in l.tables.obj l.tables.image) (length l.tables.obj.heads.places.now) 0 (ends_rows l.initial.table))
    × OnlyEnds l.initial.table l.table
