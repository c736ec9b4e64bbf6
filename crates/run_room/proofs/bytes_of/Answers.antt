-- `run_room::bytes_of` meets its contract: a length moves from what is left into the bytes, and at the end nothing is left.
use native.Mathlib.Omega.{arith}
use Rattle.run_room.proofs.Sums.{sum_turn, sum-none}
use Rattle.run_room.proofs.bytes_of.Goals as goal

pub loop-length-preserved : goal.loop-length-preserved
loop-length-preserved c =
    let l = c.loop-length in
    let small = (c.type_inv.lengths l.length-index).fits in
    let turn = sum_turn c.args.lengths.now l.length-index c.loop-length-test.true in
    (omega (arith, turn, l.invariant.0), omega (arith, small, l.invariant.1))

pub returns : goal.returns
returns c = let none = sum-none c.args.lengths.now c.loop-length.length-index (omega (arith, c.loop-length-test.false)) in omega (arith, none, c.loop-length.invariant.0)
