-- `symbols::highest_of`: a turn raises the highest so far by the symbol that comes.
use Rattle.std.proofs.Common.{◌≡◌, get_or, sym, ap, ◌∙◌}
use Rattle.symbol_order.specs.Order.{symbol_of}
use Rattle.symbol_order.proofs.Parts.{held_at}
use Rattle.symbols.specs.Ranges.{raise}
use Rattle.symbols.proofs.Laws.{highest_turn, highest_end}
use Rattle.symbols.proofs.highest_of.Goals as goal

pub record-requires : goal.record-requires
record-requires c = held_at _ _ _ c.requires _ _ c.loop-k-test.true c.from.ensures

pub loop-k-preserved : goal.loop-k-preserved
loop-k-preserved c =
    let a = c.args in
    let l = c.loop-k in
    let e : c.raised-most.result ≡ raise l.most (symbol_of a.table.now.bytes.now a.table.now.places.now (get_or a.part.now l.k-index 0)) =
    c.raised-most.ensures ∙ ap (raise l.most) (c.record.ensures ∙ ap (symbol_of a.table.now.bytes.now a.table.now.places.now) c.from.ensures) in
    rw e (sym (highest_turn (symbol_of a.table.now.bytes.now a.table.now.places.now) a.part.now l.k-index l.most c.loop-k-test.true) ∙ l.invariant)

pub returns : goal.returns
returns c = sym (highest_end _ _ _ _ c.loop-k-test.false) ∙ c.loop-k.invariant
