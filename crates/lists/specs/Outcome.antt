-- What a stage gives: a value, or a refusal with the number, section and address of document 01, "Refused, by place".
-- A stage's definition is a `do` of `refuse` lines in document 01's order: "Within a place the first fault counts, top to bottom."
-- Callers use the laws of proofs/Outcomes.antt: `fails`, `passes`, `then_inv`, `bind_inv`.
use Rattle.std.specs.Prelude.{ℕ, Bool, true, false}

infixl 1 ◌>>=◌
infixl 1 ◌>>◌
pub data Outcome (A : Type 0) : Type 0 where
  accepted : A → Outcome A
  refused : ℕ → ℕ → ℕ → Outcome A

-- the first refusal counts: what follows is asked only of an accepted value
unfoldable pub ◌>>=◌ : {A B : Type 0} → Outcome A → (A → Outcome B) → Outcome B
accepted a >>= f = f a
refused number section address >>= f = refused number section address

unfoldable pub ◌>>◌ : {B : Type 0} → Outcome (Unit {0}) → Outcome B → Outcome B
accepted u >> m = m
refused number section address >> m = refused number section address

-- this number at this place, if the condition holds
unfoldable pub refuse : ℕ → ℕ → ℕ → Bool → Outcome (Unit {0})
refuse number section address true = refused number section address
refuse number section address false = accepted tt
