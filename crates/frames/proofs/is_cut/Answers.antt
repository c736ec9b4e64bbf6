-- `frames::is_cut` meets its contract: the head lies in the bytes, then the payload.
use Prim.Native.Nat.{ℕ, ◌+◌, ◌-◌, ◌≤◌}
use native.Mathlib.Omega.{arith}
use mathlib.Core.Path.{◌≡◌, ◌∙◌}
use lib.Dec.{ltb}
use borrow.Author.Tests.{ltb-true, lt-ltb}
use Rattle.lists.proofs.Among.{same_test}
use Rattle.frames.proofs.Laws.{head_cut, payload_asked}
use Rattle.frames.proofs.is_cut.Goals as goal

-- what is left behind the head is less than the payload
left_less : (n at size : ℕ) → at + 6 ≤ n → ltb (n - at - 6) size ≡ ltb n (at + 6 + size)
left_less n at size h =
    same_test _ _ (λ e. lt-ltb _ _ (let l = ltb-true _ _ e in omega arith)) (λ e. lt-ltb _ _ (let l = ltb-true _ _ e in omega arith))

pub returns-then-left-lt6 : goal.returns-then-left-lt6
returns-then-left-lt6 c = head_cut _ _ (omega arith)

pub returns : goal.returns
returns c = rw c.get.ensures (left_less _ c.args.at _ (omega arith) ∙ payload_asked _ _ (omega arith))
