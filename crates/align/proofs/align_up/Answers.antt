-- A good alignment is the power of its trailing zeros, at most 2 ^ 16: the shifts divide and multiply by it, and no bit is lost.
use mathlib.Core.Path.{◌≡◌}
use Prim.Native.Nat.{◌*◌, ◌-◌, ◌+◌, ◌/◌, ◌%◌, ◌^◌}
use native.Mathlib.Nat.{mod-eq_of_lt}
use native.Mathlib.Omega.{arith}
use Rattle.align.specs.Align.{align_up}
use Rattle.align.proofs.Laws.{good_pow, good_exponent, good_pos, align_up_near}
use Rattle.align.proofs.Theorems.{align_up-fits}
use lib.Count.{count_trailing_zeros}
use Rattle.align.proofs.align_up.Goals as goal

pub overflow_sub-result : goal.overflow_sub-result
overflow_sub-result c = omega (arith, good_pos c.args.align c.requires.1)

pub overflow_add-result : goal.overflow_add-result
overflow_add-result c = omega (arith, (align_up-fits c.args.value c.args.align c.requires.1 c.requires.0).0)

pub overflow_shr-result : goal.overflow_shr-result
overflow_shr-result c = omega (arith, good_exponent c.args.align c.requires.1)

pub overflow_shl-result : goal.overflow_shl-result
overflow_shl-result c = omega (arith, good_exponent c.args.align c.requires.1)

pub returns : goal.returns
unfolding align_up
returns c =
    let v = c.args.value in
    let a = c.args.align in
    let p = 2 ^ count_trailing_zeros 32 a in
    let fits = align_up-fits v a c.requires.1 c.requires.0 in
    let is : (v + (a - 1)) / p * p % 4294967296 ≡ align_up v a = rw (good_pow a c.requires.1) (mod-eq_of_lt (omega (arith, fits.1))) in
    record { is = is; near = rw is (align_up_near a c.requires.1 v).1 }
