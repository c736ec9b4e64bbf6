-- The halving loop: "A misfitting alignment is halved until it fits or is 4 or less." The rest of the halving gives what the whole gives, and 16 times are enough.
-- Assumes nothing.
use mathlib.Core.Path.{◌≡◌, refl, sym, ◌∙◌}
use mathlib.Core.Logic.{◌≢◌}
use Prim.Native.Nat.{ℕ, zero, suc, ◌*◌, ◌/◌, ◌%◌, ◌≤◌, ◌<◌}
use native.Mathlib.Omega.{arith}
use borrow.Author.Tests.{eq-eqb, ne_eqb, le-leb, lt-leb}
use Rattle.walk.specs.Walk.{halved}

-- the most that can be halved so often to 4 or less
unfoldable pub limit : ℕ → ℕ
limit zero = 4
limit (suc times) = 2 * limit times

limit_16 : limit 16 ≡ 262144
unfolding limit
limit_16 = refl

-- a, of which the rest of the halving gives what the whole gave
pub record Halving (whole address a : ℕ) : Type 0 where
  pub times : ℕ
  pub few : a ≤ limit times
  pub least : 0 < a
  pub most : a ≤ 65536
  pub same : halved times a address ≡ whole

pub halving_starts : (address a : ℕ) → 0 < a → a ≤ 65536 → Halving (halved 16 a address) address a
halving_starts address a h q = record { times = 16; few = omega (arith, limit_16); least = h; most = q; same = refl }

module _ (whole address a : ℕ) (h : Halving whole address a) where
  pub half_fits : address % a ≡ 0 → whole ≡ a
  unfolding halved
  half_fits e = sym h.same ∙ go h.times
    where
      go : (m : ℕ) → halved m a address ≡ a
      go zero = refl
      go (suc m) = rw (eq-eqb (address % a) 0 e)

  pub half_stops : address % a ≢ 0 → a ≤ 4 → whole ≡ a
  unfolding halved
  half_stops d l = sym h.same ∙ go h.times
    where
      go : (m : ℕ) → halved m a address ≡ a
      go zero = refl
      go (suc m) = rw (ne_eqb (address % a) 0 d, le-leb a 4 l)

  pub half_on : address % a ≢ 0 → 4 < a → Halving whole address (a / 2)
  unfolding halved limit
  half_on d l = go h.times h.few h.same
    where
      go : (m : ℕ) → a ≤ limit m → halved m a address ≡ whole → Halving whole address (a / 2)
      go zero f s = absurd (omega arith)
      go (suc m) f s =
          let x = h.most in
          record {
            times = m;
            few = omega arith;
            least = omega arith;
            most = omega arith;
            same = sym (rw (ne_eqb (address % a) 0 d, lt-leb a 4 l)) ∙ s;
          }
