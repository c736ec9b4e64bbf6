-- A number with one bit set is the power of two of its trailing zeros, and a power of two has one bit set. So a good alignment is known by its exponent.
-- Assumes nothing.
use mathlib.Core.Path.{◌≡◌, refl, sym, ap, ◌∙◌}
use mathlib.Core.Bool.{Bool, true, false}
use mathlib.Core.Logic.{◌≢◌}
use Prim.Native.Nat.{ℕ, zero, suc, ◌+◌, ◌-◌, ◌*◌, ◌/◌, ◌%◌, ◌^◌, ◌≤◌, ◌<◌}
use native.Mathlib.Nat.{add-zero, one-mul, pow-suc, div-mul-le_self, lt_of_not-le}
use native.Mathlib.Omega.{arith}
use borrow.Author.Tests.{eqb-true, leb-true, ne_eqb, not-false, eqb-false}
use lib.Dec.{eqb, leb}
use lib.Count.{ones, ones_in, ones_step, ones_cat, count_trailing_zeros, under}
use lib.Pow.{pow_pos, pow_mono}
use Rattle.std.proofs.lemmas.Bool.{and_parts}
use Rattle.align.specs.Align.{good_align, bad_align, align_up}

-- ---- one bit set

-- a number without set bits is 0
no_ones : (k n : ℕ) → n < 2 ^ k → ones n ≡ 0 → n ≡ 0
no_ones zero n h e = omega arith
no_ones (suc k) n h e =
    let p : n < 2 ^ k * 2 = rw pow-suc at h in
    let s : n % 2 + ones (n / 2) ≡ 0 = sym (ones_step n) ∙ e in
    let r : n / 2 ≡ 0 = no_ones k (n / 2) (omega arith) (omega arith) in
    omega arith

zero_has-none : ones 0 ≡ 0
unfolding ones ones_in
zero_has-none = refl

one_has_one : ones 1 ≡ 1
unfolding ones ones_in
one_has_one = refl

-- a number with one bit set is the power of its trailing zeros
pub pow_trailing : (k a : ℕ) → a < 2 ^ k → ones a ≡ 1 → 2 ^ count_trailing_zeros k a ≡ a
unfolding count_trailing_zeros
pow_trailing zero a h e = absurd (let z : a ≡ 0 = omega arith in let y : ones a ≡ 0 = rw z zero_has-none in omega arith)
pow_trailing (suc k) a h e = by_digit (a % 2) refl (pow_trailing k (a / 2) (let p : a < 2 ^ k * 2 = rw pow-suc at h in omega arith))
  where
    by_digit : (d : ℕ) → a % 2 ≡ d → (ones (a / 2) ≡ 1 → 2 ^ count_trailing_zeros k (a / 2) ≡ a / 2) → 2 ^ under (a % 2) (count_trailing_zeros k (a / 2)) ≡ a
    by_digit zero q ih =
        let s = sym (ones_step a) ∙ e in
        let p = ih (omega arith) in
        rw (q, pow-suc, p) (omega arith)
    by_digit (suc d) q ih =
        let s = sym (ones_step a) ∙ e in
        let p : a < 2 ^ k * 2 = rw pow-suc at h in
        let z : a / 2 ≡ 0 = no_ones k (a / 2) (omega arith) (omega arith) in
        rw q (omega arith)

-- a power of two has one bit set
pub ones_pow : (e : ℕ) → ones (2 ^ e) ≡ 1
ones_pow e =
    ap ones (sym (add-zero (1 * 2 ^ e) ∙ one-mul (2 ^ e))) ∙ ones_cat e 1 0 (pow_pos e) ∙ ap (λ (n : ℕ). n + ones 0) one_has_one ∙ ap (λ (n : ℕ). 1 + n) zero_has-none

-- ---- good alignments

-- what a good alignment is
pub good_parts : (a : ℕ) → good_align a ≡ true → (ones a ≡ 1) × (a ≤ 65536)
unfolding good_align
good_parts a e =
    let p = and_parts (eqb (ones a) 1) (leb a 65536) e in
    (eqb-true (ones a) 1 p.0, leb-true a 65536 p.1)

-- an alignment that is given and not bad is good
pub not_bad : (a : ℕ) → bad_align a ≡ false → a ≢ 0 → good_align a ≡ true
unfolding bad_align
not_bad a e h = not-false (good_align a) (sym (rw (ne_eqb a 0 h)) ∙ e)

-- an alignment that is not bad has four bytes
pub low_align : (a : ℕ) → bad_align a ≡ false → a < 4294967296
low_align a e = go (eqb a 0) refl
  where
    go : (t : Bool) → eqb a 0 ≡ t → a < 4294967296
    go true q = let z = eqb-true a 0 q in omega arith
    go false q = let z = (good_parts a (not_bad a e (eqb-false a 0 q))).1 in omega arith

module _ (a : ℕ) (good : good_align a ≡ true) where
  -- the exponent, as the code counts it
  pub good_pow : 2 ^ count_trailing_zeros 32 a ≡ a
  good_pow = let p = good_parts a good in pow_trailing 32 a (omega arith) p.0

  pub good_exponent : count_trailing_zeros 32 a ≤ 16
  good_exponent =
      let p = good_parts a good in
      let below : count_trailing_zeros 32 a < 17 = lt_of_not-le (λ (far : 17 ≤ count_trailing_zeros 32 a). let m = pow_mono far in let e = good_pow in omega arith) in
      omega arith

  pub good_pos : 0 < a
  good_pos = rw (← good_pow) (pow_pos (count_trailing_zeros 32 a))

  -- a good alignment moves a value up by less than the largest one
  pub align_up_near : (v : ℕ) → (v + (a - 1) ≤ v + 65535) × (align_up v a ≤ v + 65535)
  unfolding align_up
  align_up_near v =
      let p = good_parts a good in
      let q = div-mul-le_self (v + (a - 1)) a in
      (omega arith, omega arith)
