-- A slice that is lent to be written, in a struct of such slices: that the one which stands there afterwards is still that one.
use Rattle.std.specs.Prelude.{◌≡◌, List, length}
use denote.Ref.{MutBor}

-- the same slice, of the same length, whatever it holds
pub record SameSlice {A : Type 0} (before after : MutBor (List A)) : Type 0 where
  pub name : after.ghost_name ≡ before.ghost_name
  pub size : length after.now ≡ length before.now
