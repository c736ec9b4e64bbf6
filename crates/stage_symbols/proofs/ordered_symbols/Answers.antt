-- `stage_symbols::ordered_symbols` meets its contract: of a table that passed the fronts of the columns are the places and the order.
-- Assumes nothing.
use mathlib.Core.Path.{sym, refl}
use native.Mathlib.Omega.{arith}
use lib.Seq.{length-take-le}
use Rattle.stage_tables.proofs.Laws.{filled_few, table_taken}
use Rattle.stage_symbols.proofs.Orders.{ordered-filled}
use Rattle.stage_symbols.proofs.ordered_symbols.Goals as goal

pub slice_bounds-result-end : goal.slice_bounds-result-end
slice_bounds-result-end c =
    let few = filled_few 20 c.args.ceiling c.args.symbols.now _ _ (ordered-filled c.in_ok-n.ensures) in
    sym (length-take-le _ _ (omega (arith, few, c.requires.1.places_long, c.take_symbol_order.auto.places)))

pub slice_bounds-result-end-2 : goal.slice_bounds-result-end-2
slice_bounds-result-end-2 c =
    let few = filled_few 20 c.args.ceiling c.args.symbols.now _ _ (ordered-filled c.in_ok-n.ensures) in
    sym (length-take-le _ _ (omega (arith, c.in_ok-n.ensures.led.small, few, c.requires.1.order_long, c.take_symbol_order.auto.order)))

pub returns : goal.returns
returns c =
    let o = c.in_ok-n.ensures in
    let k = table_taken 20 c.args.ceiling c.args.symbols.now _ _ (ordered-filled o) c.requires.1.few _ refl refl in
    record { said = o.said; symbols = record { table = k.table; order = o.led.is } }
