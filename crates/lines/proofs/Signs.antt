-- The sign of a number and its digits: what the test against 0 says of them. Assumes nothing.
use Rattle.std.proofs.Common.{◌≡◌, refl, ℕ, ◌∷◌, true, false, arith}
use borrow.Author.Tests.{ltb-true}
use lib.IntN.{ℤ, pos, negsuc, nat_abs}
use lib.Signed.{lt_z}
use Rattle.lines.specs.Lines.{decimal, signed_decimal}

pub digits_negative : (z : ℤ) → lt_z z (pos 0) ≡ true → signed_decimal z ≡ 45 ∷ decimal (nat_abs z)
unfolding signed_decimal
digits_negative (pos n) e = absurd (let h = ltb-true n 0 e in omega arith)
digits_negative (negsuc n) e = refl

pub digits_number : (z : ℤ) → lt_z z (pos 0) ≡ false → signed_decimal z ≡ decimal (nat_abs z)
unfolding signed_decimal
digits_number (pos n) e = refl
digits_number (negsuc n) e = absurd (let z : ◌≡◌ {A = ℕ} 0 1 = cc in omega arith)
