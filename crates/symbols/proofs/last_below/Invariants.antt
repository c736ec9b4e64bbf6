-- `symbols::last_below`. Invariant: the last that passes of the places from the section's first to before j is the last
-- that passes of the section's symbols below the address.
use Rattle.std.specs.Prelude.{◌≡◌, length}
use Rattle.lists.specs.Rows.{first_in}
use Rattle.lists.specs.Sort.{at_least}
use Rattle.symbol_order.specs.Order.{symbol_of, key, key_at}
use Rattle.symbols.specs.Ranges.{sized_unstripped, last_below}
use Rattle.symbols.proofs.Laws.{last_from}
use Rattle.symbols.proofs.last_below.Given as goal

abbrev pub invariant-loop-j : goal.invariant-loop-j
invariant-loop-j l =
    last_from (λ i. sized_unstripped l.objects (symbol_of l.b l.places i)) l.order (first_in (at_least (key_at l.b l.places) (key l.section 0)) l.order) l.j
    ≡ last_below (symbol_of l.b l.places) (length l.places) l.section l.objects l.address
