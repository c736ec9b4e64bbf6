-- The columns that were lent stay the ones that are lent, over several calls.
use Rattle.lists.proofs.Slices.{slice_same, slice_still}
use Rattle.name_table.specs.declared.columns.NameColumns.{NameColumns}
use Rattle.name_table.specs.Columns.{SameLent}

pub lent_same : {t : NameColumns} → SameLent t t
lent_same = record { places = slice_same; lengths = slice_same; heads = slice_same; chain = slice_same }

pub lent_still : {t u v : NameColumns} → SameLent t u → SameLent u v → SameLent t v
lent_still g h =
    record {
      places = slice_still g.places h.places;
      lengths = slice_still g.lengths h.lengths;
      heads = slice_still g.heads h.heads;
      chain = slice_still g.chain h.chain;
    }
