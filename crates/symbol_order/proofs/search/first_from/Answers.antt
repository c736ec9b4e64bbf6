-- `symbol_order::search::first_from`: each key that it looks at says whether the first place lies before it, where it halves, or after it, where it goes on.
use native.Mathlib.Omega.{arith}
use Prim.Native.Nat.{◌+◌, ◌-◌, ◌<◌}
use lib.ListN.{length}
use Rattle.lists.proofs.FirstIn.{first_in_le}
use Rattle.lists.proofs.Between.{place_above, place-below}
use Rattle.symbol_order.proofs.search.first_from.Goals as goal

pub loop-lo-init : goal.loop-lo-init
loop-lo-init g c = (omega arith, c.requires.begun, λ k h a. a)

pub returns-then-low-key-clause-inside : goal.returns-then-low-key-clause-inside
returns-then-low-key-clause-inside g c = let e = c.halve.ensures.inside in (omega (arith, c.loop-lo.invariant.0, e.0), omega (arith, e.1))

pub returns-then-low-key-clause-first : goal.returns-then-low-key-clause-first
returns-then-low-key-clause-first g c =
    let i = c.loop-lo.invariant in
    let m = c.loop-lo.lo + (c.loop-lo.lo - c.args.from) in
    let inside : m < length c.args.s.now = omega (arith, i.0) in
    λ k h a.
    let r = h.gives m _ inside c.key.ensures in
    c.halve.ensures.first k h (i.2 k h a) (place-below k c.args.low c.args.s.now m 0 inside (omega (arith, r)))

pub loop-lo-preserved : goal.loop-lo-preserved
loop-lo-preserved g c =
    let i = c.loop-lo.invariant in
    let m = c.loop-lo.lo + (c.loop-lo.lo - c.args.from) in
    let inside : m < length c.args.s.now = omega (arith, i.0) in (
      omega (arith, i.0),
      omega (arith, i.0),
      λ k h a.
          let r = h.gives m _ inside c.key.ensures in
          let p = place_above k c.args.low c.args.s.now m 0 h.sorted inside (omega (arith, r)) in
          omega (arith, p),
    )

pub returns-clause-first : goal.returns-clause-first
returns-clause-first g c = λ k h a. c.halve-2.ensures.first k h (c.loop-lo.invariant.2 k h a) (first_in_le _ c.args.s.now)
