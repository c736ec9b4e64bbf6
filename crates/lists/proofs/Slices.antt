-- A slice that was lent stays the one that is lent, over several calls. Assumes nothing.
use mathlib.Core.Path.{refl, ◌∙◌}
use mathlib.Core.List.{List}
use denote.Ref.{MutBor}
use Rattle.lists.specs.Slices.{SameSlice}

module _ {A : Type 0} where
  pub slice_same : {s : MutBor (List A)} → SameSlice s s
  slice_same = record { name = refl; size = refl }

  pub slice_still : {s t u : MutBor (List A)} → SameSlice s t → SameSlice t u → SameSlice s u
  slice_still p q = record { name = q.name ∙ p.name; size = q.size ∙ p.size }
