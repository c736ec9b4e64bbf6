-- Chains of outcomes that carry a value, `◌>>=◌`: where the first is accepted or refused, and chains that only change the value. Assumes nothing.
use mathlib.Core.Path.{◌≡◌, refl, ap}
use Prim.Native.Nat.{ℕ}
use Rattle.lists.specs.Outcome.{Outcome, accepted, refused, ◌>>=◌, ◌>>◌}

module _ {A B : Type 0} (m : Outcome A) (f : A → Outcome B) where
  -- an accepted value goes on
  pub bind_goes : (a : A) → m ≡ accepted a → (m >>= f) ≡ f a
  unfolding ◌>>=◌
  bind_goes a e = rw e

  -- a refusal stands
  pub bind_stops : (number section address : ℕ) → m ≡ refused number section address → (m >>= f) ≡ refused number section address
  unfolding ◌>>=◌
  bind_stops number section address e = rw e

-- .. after an outcome without a value
module _ {B : Type 0} (m : Outcome (Unit {0})) (n : Outcome B) where
  pub after_goes : m ≡ accepted tt → (m >> n) ≡ n
  unfolding ◌>>◌
  after_goes e = rw e

  pub after-stops : (number section address : ℕ) → m ≡ refused number section address → (m >> n) ≡ refused number section address
  unfolding ◌>>◌
  after-stops number section address e = rw e

-- a chain after a chain
pub bind_assoc : {A B C : Type 0} (m : Outcome A) (f : A → Outcome B) (g : B → Outcome C) → ((m >>= f) >>= g) ≡ (m >>= λ a. f a >>= g)
unfolding ◌>>=◌
bind_assoc (accepted a) f g = refl
bind_assoc (refused number section address) f g = refl

-- the same goes on
pub onward : {A B : Type 0} (m : Outcome A) (f g : A → Outcome B) → ((a : A) → f a ≡ g a) → (m >>= f) ≡ (m >>= g)
unfolding ◌>>=◌
onward (accepted a) f g e = e a
onward (refused number section address) f g e = refl

-- the value as it is
pub bind_same : {A : Type 0} (m : Outcome A) → (m >>= λ a. accepted a) ≡ m
unfolding ◌>>=◌
bind_same (accepted a) = refl
bind_same (refused number section address) = refl

-- the value changed twice
pub bind_twice : {A B C : Type 0} (m : Outcome A) (f : A → B) (g : B → C)
    → ((m >>= λ a. accepted (f a)) >>= λ b. accepted (g b)) ≡ (m >>= λ a. accepted (g (f a)))
unfolding ◌>>=◌
bind_twice (accepted a) f g = refl
bind_twice (refused number section address) f g = refl

-- the same change
pub bind_alike : {A B : Type 0} (m : Outcome A) (f g : A → B) → ((a : A) → f a ≡ g a) → (m >>= λ a. accepted (f a)) ≡ (m >>= λ a. accepted (g a))
unfolding ◌>>=◌
bind_alike (accepted a) f g e = ap accepted (e a)
bind_alike (refused number section address) f g e = refl
