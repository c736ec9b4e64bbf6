-- A signed number as a word, in two's complement: how far a number that is below zero is below -1, which is `mag z` of `lib.Signed`, and that a number which was stored
-- is read back. Stated over the width. Assumes nothing.
use mathlib.Core.Path.{◌≡◌, refl, sym, ap, ◌∙◌}
use mathlib.Core.Bool.{Bool, true, false, cond}
use Prim.Native.Nat.{ℕ, zero, suc, ◌+◌, ◌-◌, ◌≤◌}
use native.Mathlib.Nat.{zero-add}
use native.Mathlib.Omega.{arith}
use borrow.Author.Tests.{ltb-true, le-ltb}
use mathlib.Core.List.{List}
use lib.ListN.{length}
use lib.Seq.{sets}
use lib.IntN.{ℤ, pos, negsuc, ◌-ℤ◌}
use lib.Signed.{mag, lt_z}
use mir.Syntax.{Width, w32}
use mir.Val.{SFits, to_z, of_z}
use mir.Facts.{to_z-of_z, Fits-of_z}
use Rattle.fields.specs.Fields.{le32, enc32, signed32, word32}
use Rattle.fields.proofs.Laws.{le32_back}

-- ---- -1 less a number

minus_pos : (n : ℕ) → negsuc 0 -ℤ pos n ≡ negsuc n
minus_pos zero = refl
minus_pos (suc n) = ap (λ (k : ℕ). negsuc (suc k)) (zero-add n)

minus_negsuc : (n : ℕ) → negsuc 0 -ℤ negsuc n ≡ pos n
minus_negsuc n =
    ap (λ (t : Bool). cond t (negsuc (1 - suc (suc n))) (pos (suc n - 1))) (le-ltb (suc n) 1 (omega arith))
    ∙ ap pos (let e : suc n - 1 ≡ n = omega arith in e)

-- ---- a test against 0

negative : (z : ℤ) → lt_z z (pos 0) ≡ true → z ≡ negsuc (mag z)
negative (pos n) e = absurd (let h = ltb-true n 0 e in omega arith)
negative (negsuc n) e = refl

not_negative : (z : ℤ) → lt_z z (pos 0) ≡ false → z ≡ pos (mag z)
not_negative (pos n) e = refl
not_negative (negsuc n) e = absurd (let z : ◌≡◌ {A = ℕ} 0 1 = cc in omega arith)

-- ---- to a word

module _ (w : Width) (z : ℤ) (fits : SFits w z) where
  -- below zero
  module _ (neg : lt_z (to_z w (of_z w z)) (pos 0) ≡ true) where
    below : z ≡ negsuc (mag z)
    below = negative z (sym (ap (λ (y : ℤ). lt_z y (pos 0)) (to_z-of_z fits)) ∙ neg)

    pub distance : negsuc 0 -ℤ to_z w (of_z w z) ≡ pos (mag z)
    distance = ap (λ (y : ℤ). negsuc 0 -ℤ y) (to_z-of_z fits ∙ below) ∙ minus_negsuc (mag z)

  -- from zero on
  module _ (rest : lt_z (to_z w (of_z w z)) (pos 0) ≡ false) where
    pub number : to_z w (of_z w z) ≡ pos (mag z)
    number = to_z-of_z fits ∙ not_negative z (sym (ap (λ (y : ℤ). lt_z y (pos 0)) (to_z-of_z fits)) ∙ rest)

-- ---- what was stored is read back

module _ (b : List ℕ) (at : ℕ) (z : ℤ) where
  pub signed32_back : SFits w32 z → at + 4 ≤ length b → signed32 (le32 (sets b at (enc32 (word32 z))) at) ≡ z
  signed32_back fits q = ap signed32 (le32_back b at (word32 z) (Fits-of_z fits).fits q) ∙ to_z-of_z fits
