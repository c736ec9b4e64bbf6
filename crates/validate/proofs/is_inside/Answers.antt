-- `validate::is_inside` meets its contract: the symbol that `last_below` finds is one of the table and ends below 0xF0000000; below 0 lies nothing.
use mathlib.Core.Path.{sym, ap, ◌∙◌}
use mathlib.Core.Bool.{false}
use native.Mathlib.Omega.{arith}
use borrow.Author.Tests.{le-ltb}
use lib.Dec.{ltb}
use lib.ListN.{length}
use Rattle.symbol_order.specs.Order.{symbol_of}
use Rattle.symbol_order.proofs.Parts.{held}
use Rattle.symbols.proofs.Finds.{below-found}
use Rattle.validate.proofs.Steps.{end_at, end_none}
use Rattle.validate.proofs.is_inside.Goals as goal

pub record-y-requires : goal.record-y-requires
record-y-requires c =
    let a = c.args in
    held _ _ a.symbols.now.ordered.whole _ (below-found (symbol_of a.symbols.now.table.bytes.now a.symbols.now.table.places.now) (length a.symbols.now.table.places.now) a.section false a.address c.in-Some.i (sym c.last_below.ensures ∙ c.in-Some.is))

pub returns-in-Some : goal.returns-in-Some
returns-in-Some c =
    let a = c.args in
    rw (c.from.ensures, c.end.ensures) (ap (ltb a.address) (end_at (symbol_of a.symbols.now.table.bytes.now a.symbols.now.table.places.now) (length a.symbols.now.table.places.now) a.section a.address _ _ c.record-y.ensures (sym c.in-Some.is ∙ c.last_below.ensures)))

pub returns-in-None : goal.returns-in-None
returns-in-None c =
    let a = c.args in
    let none = end_none (symbol_of a.symbols.now.table.bytes.now a.symbols.now.table.places.now) (length a.symbols.now.table.places.now) a.section a.address (sym c.in-None.is ∙ c.last_below.ensures) in
    sym (le-ltb a.address _ (omega (arith, none)))
