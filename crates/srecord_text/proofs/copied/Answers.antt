-- `srecord_text::copied` meets its contract: a byte more is copied at each turn, and at the end all are.
-- Assumes nothing.
use native.Mathlib.Omega.{arith}
use mathlib.Core.Path.{◌≡◌, refl}
use Prim.Native.Nat.{◌+◌}
use lib.ListN.{get_or, drop, length-set, length-drop}
use lib.Seq.{get_or-drop}
use Rattle.lists.proofs.Keep.{take_more}
use Rattle.srecord_text.proofs.copied.Goals as goal

pub loop-i-preserved : goal.loop-i-preserved
loop-i-preserved c =
    let l = c.loop-i in
    let a = c.args in
    let here : get_or a.out.now (a.at + l.i) 0 ≡ get_or (drop a.at a.out.now) l.i 0 = rw get_or-drop refl in (
      simp length-set l.invariant.0,
      take_more l.i l.line (drop a.at a.out.now) _ 0 (omega (arith, l.invariant.0, c.requires)) (simp length-drop (omega (arith, c.requires))) here l.invariant.1,
    )

pub returns : goal.returns
returns c =
    let l = c.loop-i in
    let a = c.args in
    let e : l.i ≡ a.m = omega arith in
    rw e at l.invariant.1
