-- The alignment against the System V ABI, Object Files, Sections, sh_addralign: the good ones are powers of two, and aligning up gives the least address that
-- is 0 modulo the alignment. Both follow from the laws on powers and on division. Assumes nothing.
use mathlib.Core.Path.{◌≡◌, sym, ap, ◌∙◌}
use mathlib.Core.Bool.{true}
use mathlib.Core.Logic.{◌↔◌}
use Prim.Native.Nat.{ℕ, ◌+◌, ◌-◌, ◌*◌, ◌/◌, ◌%◌, ◌^◌, ◌≤◌, ◌<◌}
use native.Mathlib.Nat.{mul-mod_left, lt-div-mul-add, div-lt_iff_lt-mul, div-add-mod', mul-le-mul_right, add-mul, one-mul}
use native.Mathlib.Omega.{arith}
use borrow.Author.Tests.{eq-eqb, le-leb}
use lib.Count.{ones, count_trailing_zeros}
use lib.Pow.{pow_mono}
use Rattle.align.specs.Align.{good_align, align_up, LeastMultiple}
use Rattle.align.proofs.Laws.{ones_pow, good_pow, good_exponent, good_pos, align_up_near}

-- a power of two up to 2 ^ 16 is good
pow_good : (a e : ℕ) → e ≤ 16 → a ≡ 2 ^ e → good_align a ≡ true
unfolding good_align
pow_good a e h q =
    let one : ones a ≡ 1 = ap ones q ∙ ones_pow e in
    let m = pow_mono h in
    let low : a ≤ 65536 = omega arith in
    rw (eq-eqb (ones a) 1 one, le-leb a 65536 low)

-- THEOREM: an alignment is good exactly if it is a power of two up to 2 ^ 16
pub good_is : (a : ℕ) → (good_align a ≡ true) ↔ ((e : ℕ) × (e ≤ 16) × (a ≡ 2 ^ e))
good_is a = (λ g. (count_trailing_zeros 32 a, good_exponent a g, sym (good_pow a g)), λ p. pow_good a p.0 p.1 p.2)

-- THEOREM: aligning up gives the least multiple of the alignment at or above the value
pub align_up-least : (v a : ℕ) → good_align a ≡ true → LeastMultiple v a (align_up v a)
unfolding align_up
align_up-least v a good =
    let pos = good_pos a good in
    let up : v + (a - 1) < (v + (a - 1)) / a * a + a = lt-div-mul-add pos in
    record {
      multiple = mul-mod_left ((v + (a - 1)) / a) a;
      above = omega arith;
      least = λ m e h.
          let whole : m / a * a + m % a ≡ m = div-add-mod' m a in
          let next : (m / a + 1) * a ≡ m / a * a + a = add-mul (m / a) 1 a ∙ ap (λ (n : ℕ). m / a * a + n) (one-mul a) in
          let below : (v + (a - 1)) / a < m / a + 1 = (div-lt_iff_lt-mul pos).1 (omega arith) in
          let q : (v + (a - 1)) / a * a ≤ m / a * a = mul-le-mul_right a (omega arith) in
          omega arith;
    }

-- THEOREM: below 0xF0000000 no sum overflows 32 bits: both the sum that is made and the result stay below 0xF0000000 + 65,536
pub align_up-fits : (v a : ℕ) → good_align a ≡ true → v ≤ 4026531840 → (v + (a - 1) < 4026531840 + 65536) × (align_up v a < 4026531840 + 65536) × (4026531840 + 65536 ≤ 2 ^ 32)
align_up-fits v a good h = let p = align_up_near a good v in (omega arith, omega arith, omega arith)
