-- `piece_order::key_of_piece` meets its contract: the piece that starts there has this section and address.
use mathlib.Core.Path.{ap₂, ◌∙◌}
use Rattle.symbol_order.specs.Order.{key}
use Rattle.piece_order.proofs.key_of_piece.Goals as goal

pub returns : goal.returns
returns c = c.key_of.ensures.is ∙ ap₂ key c.head_at-p.ensures.section c.head_at-p.ensures.address
