-- `order_numbers::is_repeated`: order numbers are the same where their ranks are.
use Prim.Native.Nat.{ℕ}
use native.Mathlib.Omega.{arith}
use mathlib.Core.Path.{◌≡◌, refl, sym}
use mathlib.Core.Bool.{Bool, true, false}
use lib.Dec.{eqb}
use borrow.Author.Tests.{eqb-true, eqb-false, eq-eqb, ne_eqb}
use Rattle.symbol_order.proofs.Ranks.{unit_fits, word_same, word_other}
use Rattle.order_numbers.proofs.is_repeated.Goals as goal

same_test : (a b c d : ℕ) → (a ≡ b → c ≡ d) → ((a ≡ b → ⊥) → c ≡ d → ⊥) → eqb a b ≡ eqb c d
same_test a b c d same other = go (eqb a b) refl
  where
    go : (t : Bool) → eqb a b ≡ t → t ≡ eqb c d
    go true e = sym (eq-eqb c d (same (eqb-true a b e)))
    go false e = sym (ne_eqb c d (other (eqb-false a b e)))

pub order_in-requires : goal.order_in-requires
order_in-requires c = (omega arith, c.requires.2)

pub returns : goal.returns
returns c =
    same_test _ _ _ _ (word_same (unit_fits _ _) (unit_fits _ _) c.order_in.ensures c.order_in-2.ensures) (word_other (unit_fits _ _) (unit_fits _ _) c.order_in.ensures c.order_in-2.ensures)
