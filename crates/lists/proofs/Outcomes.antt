-- Chains of refusals: what a chain gives where a test holds or fails, and what an accepted chain tells of its tests. Assumes nothing.
use mathlib.Core.Path.{◌≡◌, refl, sym, ◌∙◌}
use mathlib.Core.Bool.{Bool, true, false}
use Prim.Native.Nat.{ℕ}
use native.Mathlib.Omega.{arith}
use Rattle.lists.specs.Outcome.{Outcome, accepted, refused, ◌>>=◌, ◌>>◌, refuse}

-- a refusal is no accepted value
pub not_both : {A : Type 0} {number section address : ℕ} {a : A} → ◌≡◌ {A = Outcome A} (refused number section address) (accepted a) → ⊥
not_both e = let z : ◌≡◌ {A = ℕ} 0 1 = cc in omega arith

pub same_accepted : {A : Type 0} {a b : A} → ◌≡◌ {A = Outcome A} (accepted a) (accepted b) → a ≡ b
same_accepted e = cc

module _ {B : Type 0} (number section address : ℕ) (t : Bool) (m : Outcome B) where
  -- the test holds: this refusal is the answer
  pub fails : t ≡ true → (refuse number section address t >> m) ≡ refused number section address
  unfolding ◌>>◌ refuse
  fails e = rw e

  -- it fails: the answer is that of the rest
  pub passes : t ≡ false → (refuse number section address t >> m) ≡ m
  unfolding ◌>>◌ refuse
  passes e = rw e

-- a rule by itself: its refusal, or what an accepted one tells of its test
module _ (number section address : ℕ) (t : Bool) where
  pub refuses : t ≡ true → refuse number section address t ≡ refused number section address
  unfolding refuse
  refuses e = rw e

  pub allows : t ≡ false → refuse number section address t ≡ accepted tt
  unfolding refuse
  allows e = rw e

pub refuse_inv : (number section address : ℕ) (t : Bool) → refuse number section address t ≡ accepted tt → t ≡ false
unfolding refuse
refuse_inv number section address true e = absurd (not_both e)
refuse_inv number section address false e = refl

-- an accepted chain: each test failed, and what follows is accepted
pub then_inv : {B : Type 0} (number section address : ℕ) (t : Bool) (m : Outcome B) (b : B)
    → (refuse number section address t >> m) ≡ accepted b → (t ≡ false) × (m ≡ accepted b)
unfolding ◌>>◌ refuse
then_inv number section address true m b e = absurd (not_both e)
then_inv number section address false m b e = (refl, e)

pub bind_inv : {A B : Type 0} (m : Outcome A) (f : A → Outcome B) (b : B) → (m >>= f) ≡ accepted b
    → (a : A) × (m ≡ accepted a) × (f a ≡ accepted b)
unfolding ◌>>=◌
bind_inv (accepted a) f b e = (a, refl, e)
bind_inv (refused number section address) f b e = absurd (not_both e)

-- one outcome after another: a refusal stands, what was accepted goes on, and an accepted chain has accepted both
module _ {w m : Outcome (Unit {0})} (said : w ≡ m) where
  pub then_stops : {number section address : ℕ} (n : Outcome (Unit {0})) → w ≡ refused number section address → w ≡ (m >> n)
  unfolding ◌>>◌
  then_stops n e = let q = sym said ∙ e in rw q e

  pub then_goes : {B : Type 0} (n : Outcome B) → w ≡ accepted tt → n ≡ (m >> n)
  unfolding ◌>>◌
  then_goes n e = let q = sym said ∙ e in rw q

pub then_both : {B : Type 0} (m : Outcome (Unit {0})) (n : Outcome B) (b : B) → (m >> n) ≡ accepted b → (m ≡ accepted tt) × (n ≡ accepted b)
unfolding ◌>>◌
then_both (accepted u) n b e = (refl, e)
then_both (refused number section address) n b e = absurd (not_both e)
