-- The table that was lent stays the one that is lent, and what changes only ends does so, over several calls.
use mathlib.Core.Path.{◌∙◌, refl}
use Rattle.lists.proofs.Slices.{slice_same, slice_still}
use Rattle.splits.specs.declared.split_table.SplitTable.{SplitTable}
use Rattle.splits.specs.declared.one_column.SplitEnds.{SplitEnds}
use Rattle.splits.specs.Table.{SameLent, OnlyEnds}

pub lent_same : {t : SplitTable} → SameLent t t
lent_same = record { room = refl; starts = slice_same; ends = slice_same; units = slice_same; rest = slice_same }

pub lent_still : {t u v : SplitTable} → SameLent t u → SameLent u v → SameLent t v
lent_still g h =
    record {
      room = h.room ∙ g.room;
      starts = slice_still g.starts h.starts;
      ends = slice_still g.ends h.ends;
      units = slice_still g.units h.units;
      rest = slice_still g.rest h.rest;
    }

-- ---- a table of which the ends alone are written

pub ends_same : {t : SplitEnds} → OnlyEnds t t
ends_same = record { starts = refl; units = refl; rest = refl; ends = slice_same; count = refl }

pub ends_still : {t u v : SplitEnds} → OnlyEnds t u → OnlyEnds u v → OnlyEnds t v
ends_still g h =
    record {
      starts = h.starts ∙ g.starts;
      units = h.units ∙ g.units;
      rest = h.rest ∙ g.rest;
      ends = slice_still g.ends h.ends;
      count = h.count ∙ g.count;
    }
