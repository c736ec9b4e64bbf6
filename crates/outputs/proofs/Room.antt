-- Room for whole records in a lent table: it is within the ceiling, its records fit, and asked of a number within the ceiling it is as good as the whole table.
-- Assumes nothing.
use Prim.Native.Nat.{ℕ, ◌*◌, ◌/◌, ◌≤◌}
use mathlib.Core.Path.{◌≡◌, refl, sym, ◌∙◌}
use mathlib.Core.Bool.{Bool, true, false, cond}
use native.Mathlib.Nat.{mul-div-le}
use native.Mathlib.Omega.{arith}
use borrow.Author.Tests.{ltb-true, ltb-false, le-ltb}
use lib.Dec.{ltb}
use Rattle.std.proofs.Math.Nat.{mul-le-mul_left}
use Rattle.outputs.specs.Room.{room_for}

module _ (ceiling width size : ℕ) where
  pub room_low : room_for ceiling width size ≤ ceiling
  unfolding room_for
  room_low = go (ltb (size / width) ceiling) refl
    where
      go : (t : Bool) → ltb (size / width) ceiling ≡ t → cond t (size / width) ceiling ≤ ceiling
      go true e = omega (arith, ltb-true (size / width) ceiling e)
      go false e = omega arith

  below : room_for ceiling width size ≤ size / width
  unfolding room_for
  below = go (ltb (size / width) ceiling) refl
    where
      go : (t : Bool) → ltb (size / width) ceiling ≡ t → cond t (size / width) ceiling ≤ size / width
      go true e = omega arith
      go false e = ltb-false (size / width) ceiling e

  pub room_fits : width * room_for ceiling width size ≤ size
  room_fits = omega (arith, mul-le-mul_left width below, mul-div-le size width)

  pub room_same : {n : ℕ} → n ≤ ceiling → ltb (room_for ceiling width size) n ≡ ltb (size / width) n
  unfolding room_for
  room_same {n} h = go (ltb (size / width) ceiling) refl
    where
      go : (t : Bool) → ltb (size / width) ceiling ≡ t → ltb (cond t (size / width) ceiling) n ≡ ltb (size / width) n
      go true e = refl
      go false e = let high = ltb-false (size / width) ceiling e in le-ltb ceiling n h ∙ sym (le-ltb (size / width) n (omega (arith, high, h)))
