-- `stage_symbols::take_symbol_order` meets its contract: a refused table has no order, the order of one that passed is made of its records' places.
-- Assumes nothing.
use mathlib.Core.Path.{sym}
use native.Mathlib.Omega.{arith}
use lib.Seq.{length-take-le}
use Rattle.stage_tables.proofs.Laws.{filled_few}
use Rattle.stage_symbols.proofs.Orders.{filled_room, filled_whole, led_in_order}
use Rattle.stage_symbols.proofs.take_symbol_order.Goals as goal

pub slice_bounds-table-end : goal.slice_bounds-table-end
slice_bounds-table-end c =
    let few = filled_few 20 c.args.ceiling c.args.symbols.now _ _ c.in_ok-take_symbols.ensures in
    omega (arith, few, c.requires.1.places_long, c.take_symbols.auto.places)

pub slice_bounds-table-end-2 : goal.slice_bounds-table-end-2
slice_bounds-table-end-2 c =
    let few = filled_few 20 c.args.ceiling c.args.symbols.now _ _ c.in_ok-take_symbols.ensures in
    sym (length-take-le _ _ (omega (arith, few, c.requires.1.places_long, c.take_symbols.auto.places)))

pub make_order-requires : goal.make_order-requires
make_order-requires c =
    let a = c.args in
    let f = c.in_ok-take_symbols.ensures in
    (filled_room a.ceiling a.symbols.now _ _ f c.requires.1, filled_whole a.ceiling a.symbols.now _ _ f c.requires.1.few)

pub returns : goal.returns
returns c =
    let f = c.in_ok-take_symbols.ensures in
    record { said = f.said; placed = f.filled; led = led_in_order c.args.ceiling c.args.symbols.now _ _ f _ c.make_order.ensures }
