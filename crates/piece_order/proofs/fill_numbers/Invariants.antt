-- `piece_order::fill_numbers` meets its contract. Invariant: the first i are the first i numbers.
-- Assumes nothing.
use mathlib.Core.Path.{◌≡◌}
use lib.ListN.{length, take}
use Rattle.symbol_order.specs.Order.{numbers}
use Rattle.piece_order.proofs.fill_numbers.Given as goal

abbrev pub invariant-loop-i : goal.invariant-loop-i
invariant-loop-i l = (take l.i l.order ≡ take l.i (numbers (length l.initial.order)))
