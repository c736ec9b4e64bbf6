-- `symbols::is_sized_at`: the number at a place of a part can be read.
use Rattle.std.proofs.Common.{ap, ◌∙◌}
use Rattle.symbol_order.specs.Order.{symbol_of}
use Rattle.symbol_order.proofs.Parts.{held_at}
use Rattle.symbols.specs.Ranges.{sized_unstripped}
use Rattle.symbols.proofs.is_sized_at.Goals as goal

pub record-requires : goal.record-requires
record-requires c = held_at _ _ _ c.requires.1 _ _ c.requires.0 c.number-i.ensures

pub returns : goal.returns
returns c =
    c.is_sized_unstripped.ensures
    ∙ ap (sized_unstripped c.args.objects) (c.record.ensures ∙ ap (symbol_of c.args.table.now.bytes.now c.args.table.now.places.now) c.number-i.ensures)
