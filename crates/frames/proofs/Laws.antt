-- A record that isn't cut lies whole in the bytes. Assumes nothing.
use mathlib.Core.Path.{◌≡◌, refl, sym}
use mathlib.Core.Bool.{Bool, true, false, cond, false≢true}
use Prim.Native.Nat.{ℕ, ◌+◌, ◌≤◌, ◌<◌}
use lib.ListN.{length}
use mathlib.Core.List.{List}
use lib.Dec.{ltb}
use borrow.Author.Tests.{ltb-false, lt-ltb, le-ltb}
use Rattle.frames.specs.Frames.{is_cut, next_at}

module _ (b : List ℕ) (at : ℕ) where
  pub not_cut : is_cut b at ≡ false → (at + 6 ≤ length b) × (next_at b at ≤ length b)
  unfolding is_cut
  not_cut e = go (ltb (length b) (at + 6)) refl e
    where
      go : (p : Bool) → ltb (length b) (at + 6) ≡ p → cond p true (ltb (length b) (next_at b at)) ≡ false → (at + 6 ≤ length b) × (next_at b at ≤ length b)
      go true h e = absurd (false≢true (sym e))
      go false h e = (ltb-false _ _ h, ltb-false _ _ e)

  pub head_cut : length b < at + 6 → true ≡ is_cut b at
  unfolding is_cut
  head_cut h = rw (lt-ltb _ _ h)

  pub payload_asked : at + 6 ≤ length b → ltb (length b) (next_at b at) ≡ is_cut b at
  unfolding is_cut
  payload_asked h = rw (le-ltb _ _ h)
