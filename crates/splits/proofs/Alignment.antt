-- The alignments that a packed number can hold are those that crate align does not call bad: none, and the powers of two up to 2 ^ 16. So the bits are found
-- from the trailing zeros, and whatever bits a row holds, its alignment is good. Assumes nothing.
use mathlib.Core.Path.{◌≡◌, refl, sym, ap, ◌∙◌}
use mathlib.Core.Bool.{Bool, true, false, cond, not, ◌&&◌}
use Prim.Native.Nat.{ℕ, zero, suc, ◌-◌, ◌*◌, ◌%◌, ◌^◌, ◌≤◌, ◌<◌}
use native.Mathlib.Nat.{one-mul, mod-eq_of_lt, le_of_suc-le-suc}
use native.Mathlib.Omega.{arith}
use borrow.Author.Tests.{eqb-true, eqb-false, leb-true, leb-false, le-leb}
use lib.Count.{count_trailing_zeros}
use lib.Dec.{eqb, leb}
use lib.Pow.{pow_mono}
use Rattle.align.specs.Align.{good_align, bad_align}
use Rattle.align.proofs.Laws.{not_bad, good_pow, good_exponent}
use Rattle.align.proofs.Theorems.{good_is}
use Rattle.splits.specs.Columns.{alignment_of, Good}

-- e + 1 stands for 2 ^ e, up to 2 ^ 16
pub alignment_pow : (e : ℕ) → e ≤ 16 → alignment_of (suc e) ≡ 2 ^ e
unfolding alignment_of
alignment_pow e h = rw (le-leb e 16 h)

pub alignment_above : (e : ℕ) → 16 < e → alignment_of (suc e) ≡ 0
unfolding alignment_of
alignment_above e h = go (leb e 16) refl
  where
    go : (t : Bool) → leb e 16 ≡ t → cond t (2 ^ e) 0 ≡ 0
    go true q = absurd (omega (arith, leb-true e 16 q))
    go false q = refl

pub alignment_none : alignment_of 0 ≡ 0
unfolding alignment_of
alignment_none = refl

-- as the code computes them
pub alignment_shifted : (bits : ℕ) → 1 ≤ bits → bits ≤ 17 → 1 * 2 ^ (bits - 1) % 4294967296 ≡ alignment_of bits
alignment_shifted zero h q = absurd (omega arith)
alignment_shifted (suc e) h q =
    let low : suc e - 1 ≡ e = omega arith in
    let m = pow_mono (le_of_suc-le-suc q) in
    rw (alignment_pow e (le_of_suc-le-suc q), low, one-mul) (mod-eq_of_lt (omega arith))

pub alignment_past : (bits : ℕ) → 17 < bits → alignment_of bits ≡ 0
alignment_past zero h = alignment_none
alignment_past (suc e) h = alignment_above e (le_of_suc-le-suc h)

pub none_not_bad : bad_align 0 ≡ false
unfolding bad_align
none_not_bad = refl

good_not_bad : (a : ℕ) → good_align a ≡ true → bad_align a ≡ false
unfolding bad_align
good_not_bad a e = rw e (go (not (eqb a 0)))
  where
    go : (t : Bool) → (t && false) ≡ false
    go true = refl
    go false = refl

-- whatever the bits are, they stand for no bad alignment
alignment_not_bad : (bits : ℕ) → bad_align (alignment_of bits) ≡ false
alignment_not_bad zero = rw alignment_none none_not_bad
alignment_not_bad (suc e) = go (leb e 16) refl
  where
    go : (t : Bool) → leb e 16 ≡ t → bad_align (alignment_of (suc e)) ≡ false
    go true q =
        let h = leb-true e 16 q in
        rw (alignment_pow e h) (good_not_bad (2 ^ e) ((good_is (2 ^ e)).1 (e, h, refl)))
    go false q = rw (alignment_above e (leb-false e 16 q)) none_not_bad

-- the bits of a good alignment: one more than its trailing zeros
pub alignment_bits : (a : ℕ) → good_align a ≡ true → alignment_of (suc (count_trailing_zeros 32 a)) ≡ a
alignment_bits a e = alignment_pow (count_trailing_zeros 32 a) (good_exponent a e) ∙ good_pow a e

-- what is not bad is good, and back
pub good_alignment : (a : ℕ) → bad_align a ≡ false → Good a
good_alignment a e = go (eqb a 0) refl
  where
    go : (t : Bool) → eqb a 0 ≡ t → Good a
    go true q = record { bits = 0; is = alignment_none ∙ sym (eqb-true a 0 q) }
    go false q = record { bits = suc (count_trailing_zeros 32 a); is = alignment_bits a (not_bad a e (eqb-false a 0 q)) }

pub alignment_good : (a : ℕ) → Good a → bad_align a ≡ false
alignment_good a g = ap bad_align (sym g.is) ∙ alignment_not_bad g.bits

-- an alignment is small
pub alignment_small : (bits : ℕ) → alignment_of bits ≤ 65536
alignment_small zero = rw alignment_none (omega arith)
alignment_small (suc e) = go (leb e 16) refl
  where
    go : (t : Bool) → leb e 16 ≡ t → alignment_of (suc e) ≤ 65536
    go true q = let h = leb-true e 16 q in rw (alignment_pow e h) (omega (arith, pow_mono h))
    go false q = rw (alignment_above e (leb-false e 16 q)) (omega arith)
