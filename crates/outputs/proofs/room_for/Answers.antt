-- `outputs::room_for` meets its contract: the lower of two numbers.
-- Assumes nothing.
use Prim.Native.Nat.{ℕ, ◌≤◌, ◌<◌}
use mathlib.Core.Path.{◌≡◌, sym, ap, ◌∙◌}
use mathlib.Core.Bool.{Bool, cond}
use mathlib.Core.Logic.{◌⊎◌, inl, inr}
use native.Mathlib.Omega.{arith}
use borrow.Author.Tests.{lt-ltb, le-ltb}
use lib.Dec.{ltb}
use Rattle.std.specs.Prelude.{min}
use Rattle.std.proofs.Math.Nat.{min-eq_left, min-eq_right}
use Rattle.std.proofs.lemmas.Bool.{cases_lt}
use Rattle.outputs.specs.Room.{room_for}
use Rattle.outputs.proofs.room_for.Goals as goal

lower : (a b : ℕ) → min a b ≡ cond (ltb a b) a b
lower a b = go (cases_lt a b)
  where
    go : (a < b) ⊎ (b ≤ a) → min a b ≡ cond (ltb a b) a b
    go (inl h) = min-eq_left (omega arith) ∙ sym (ap (λ (t : Bool). cond t a b) (lt-ltb a b h))
    go (inr h) = min-eq_right h ∙ sym (ap (λ (t : Bool). cond t a b) (le-ltb a b h))

pub returns : goal.returns
unfolding room_for
returns c = c.min.ensures ∙ lower _ c.args.ceiling
