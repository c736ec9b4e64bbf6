-- `sections::alignment_of` meets its contract: the given one, or what the highest alignment of the symbols decides.
use mathlib.Core.Path.{ap, ◌∙◌}
use lib.ListN.{length}
use Rattle.symbol_order.specs.Order.{symbol_of}
use Rattle.std.proofs.lemmas.Result.{err_from_is_err_and}
use Rattle.lists.specs.Outcome.{accepted}
use Rattle.sections.proofs.Larger.{its_own, by_symbols, backwards_asked}
use Rattle.sections.proofs.alignment_of.Goals as goal

pub returns-then-own-ne0 : goal.returns-then-own-ne0
returns-then-own-ne0 c = its_own _ _ _ _ _ _ _ c.if-own-ne0.true

pub returns-in_err-highest : goal.returns-in_err-highest
returns-in_err-highest c =
    let a = c.args in
    let p = err_from_is_err_and c.from_residual.result c.from_residual.ensures.1 in
    rw p.1 (backwards_asked (symbol_of a.table.now.bytes.now a.table.now.places.now) (length a.table.now.places.now) a.section a.least a.own a.start a.end c.if-own-ne0.false c.in_err-highest.ensures)

pub returns : goal.returns
returns c =
    let a = c.args in
    ap accepted c.larger_of.ensures
    ∙ by_symbols (symbol_of a.table.now.bytes.now a.table.now.places.now) (length a.table.now.places.now) a.section a.least a.own a.start a.end c.if-own-ne0.false _ c.in_ok-highest.ensures
