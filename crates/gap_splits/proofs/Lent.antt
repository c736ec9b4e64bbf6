-- The columns of the added names that were lent stay the ones that are lent, over several calls.
use mathlib.Core.Path.{◌∙◌, refl}
use Rattle.lists.proofs.Slices.{slice_same, slice_still}
use Rattle.gap_splits.specs.declared.added_names.AddedNames.{AddedNames}
use Rattle.gap_splits.specs.Answers.{SameLent}

pub lent_same : {a : AddedNames} → SameLent a a
lent_same = record { most = refl; most_bytes = refl; bytes = slice_same; places = slice_same; lengths = slice_same }

pub lent_still : {a b c : AddedNames} → SameLent a b → SameLent b c → SameLent a c
lent_still g h =
    record {
      most = h.most ∙ g.most;
      most_bytes = h.most_bytes ∙ g.most_bytes;
      bytes = slice_still g.bytes h.bytes;
      places = slice_still g.places h.places;
      lengths = slice_still g.lengths h.lengths;
    }
