-- The table of gaps that was lent stays the one that is lent, over several calls.
use mathlib.Core.Path.{◌∙◌, refl}
use Rattle.lists.proofs.Slices.{slice_same, slice_still}
use Rattle.gap_columns.specs.declared.gap_table.GapTable.{GapTable}
use Rattle.gap_columns.specs.Table.{SameLent}

pub lent_same : {t : GapTable} → SameLent t t
lent_same = record { room = refl; keys = slice_same; ends = slice_same }

pub lent_still : {t u v : GapTable} → SameLent t u → SameLent u v → SameLent t v
lent_still g h = record { room = h.room ∙ g.room; keys = slice_still g.keys h.keys; ends = slice_still g.ends h.ends }
