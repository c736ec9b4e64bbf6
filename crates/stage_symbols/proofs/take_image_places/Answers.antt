use Rattle.std.proofs.Common.{◌≡◌, ◌/◌, ◌<◌, arith, length}
use lib.Seq.{length-take-le}
use Rattle.stage_symbols.proofs.Places.{place_more, places_placed}
use Rattle.stage_symbols.proofs.take_image_places.Goals as goal

pub loop-i-preserved : goal.loop-i-preserved
loop-i-preserved c =
    let l = c.loop-i in
    let b = c.args.b.now in
    let n = length-take-le c.min-n.result c.args.column.now (omega (arith, c.min-n.ensures)) in
    let inside : l.i < length l.place-items = let h = c.loop-i-test.true in omega (arith, l.auto.place-items) in
    let known : l.i < length b / 4 = let h = c.loop-i-test.true in omega (arith, n, c.min-n.ensures) in
    place_more b l.place-items l.i inside known c.get.ensures l.invariant

pub returns : goal.returns
returns c =
    let l = c.loop-i in
    let m = c.min-n.result in
    let n = length-take-le m c.args.column.now (omega (arith, c.min-n.ensures)) in
    let end : l.i ≡ m = let h = c.loop-i-test.false in omega (arith, n, l.auto.i-end) in
    places_placed c.args.b.now c.args.column.now l.place-items m c.min-n.ensures (omega (arith, l.auto.place-items, n)) (rw end at l.invariant)
