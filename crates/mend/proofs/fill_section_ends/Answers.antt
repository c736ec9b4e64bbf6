-- `mend::fill_section_ends` meets its contract. Assumes nothing.
use mathlib.Core.Path.{◌∙◌}
use Prim.Native.Nat.{◌<◌}
use native.Mathlib.Omega.{arith}
use lib.ListN.{length, drop}
use lib.Seq.{length-take-le}
use Rattle.std.proofs.lemmas.List.{take-append-le}
use Rattle.mend.proofs.Ends.{ends_turn, ends_done}
use Rattle.mend.proofs.fill_section_ends.Goals as goal

pub loop-k-preserved : goal.loop-k-preserved
loop-k-preserved c =
    let a = c.args in
    let l = c.loop-k in
    let n = length-take-le (length a.heads.now.places.now) a.section_ends.now c.requires.1 in
    let there : l.k < length a.heads.now.places.now = omega (arith, n, c.loop-k-test.true) in
    ends_turn a.heads.now.bytes.now a.heads.now.places.now l.k l.end-items _ there (omega (arith, l.auto.end-items, n)) c.record-head.ensures l.invariant

pub returns : goal.returns
returns c =
    let a = c.args in
    let l = c.loop-k in
    let m = length a.heads.now.places.now in
    let n = length-take-le m a.section_ends.now c.requires.1 in
    take-append-le m l.end-items (drop m a.section_ends.now) (omega (arith, l.auto.end-items, n))
    ∙ ends_done a.heads.now.bytes.now a.heads.now.places.now l.k l.end-items (omega (arith, n, c.loop-k-test.false, l.auto.k-end)) l.invariant
