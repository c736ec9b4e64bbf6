-- `symbol_order::search::halve`: the key in the middle says on which side of it the first place lies. Where the column does not stand by key, the
-- place that it ends at lies between the two ends all the same.
use native.Mathlib.Omega.{arith}
use Prim.Native.Nat.{◌+◌, ◌-◌, ◌/◌, ◌<◌}
use lib.ListN.{length}
use Rattle.lists.proofs.Between.{place_above, place-below}
use Rattle.symbol_order.proofs.search.halve.Goals as goal

pub loop-lo-init : goal.loop-lo-init
loop-lo-init g c = (omega arith, c.requires.ends.0, omega arith, λ k h a b. (a, b))

pub key-requires : goal.key-requires
key-requires g c = c.requires.asked _ (omega (arith, c.requires.ends.1, c.loop-lo.invariant.2))

pub loop-lo-preserved-then-key-low : goal.loop-lo-preserved-then-key-low
loop-lo-preserved-then-key-low g c =
    let i = c.loop-lo.invariant in
    let m = c.loop-lo.lo + (c.loop-lo.hi - c.loop-lo.lo) / 2 in
    let inside : m < length c.args.s.now = omega (arith, c.requires.ends.1, i.2) in (
      omega (arith, i.0),
      omega arith,
      i.2,
      λ k h a b.
          let r = h.gives m _ inside c.key.ensures in
          let p = place_above k c.args.low c.args.s.now m 0 h.sorted inside (omega (arith, r)) in
          (omega (arith, p), (i.3 k h a b).1),
    )

pub loop-lo-preserved : goal.loop-lo-preserved
loop-lo-preserved g c =
    let i = c.loop-lo.invariant in
    let m = c.loop-lo.lo + (c.loop-lo.hi - c.loop-lo.lo) / 2 in
    let inside : m < length c.args.s.now = omega (arith, c.requires.ends.1, i.2) in (
      i.0,
      omega arith,
      omega (arith, i.2),
      λ k h a b.
          let r = h.gives m _ inside c.key.ensures in
          ((i.3 k h a b).0, place-below k c.args.low c.args.s.now m 0 inside (omega (arith, r))),
    )

pub returns-clause-inside : goal.returns-clause-inside
returns-clause-inside g c = (c.loop-lo.invariant.0, omega (arith, c.loop-lo.invariant.1, c.loop-lo.invariant.2))

pub returns-clause-first : goal.returns-clause-first
returns-clause-first g c = λ k h a b. let i = c.loop-lo.invariant.3 k h a b in omega (arith, i.0, i.1, c.loop-lo-test.false)
