-- `order_numbers::order_units` meets its contract: the units that have an order, sorted by its rank, are the definition itself.
use Rattle.std.proofs.Common.{rules}
use Rattle.symbol_order.specs.Keys.{unit_of, rank_at}
use Rattle.symbol_order.proofs.Parts.{held}
use Rattle.order_numbers.specs.Numbers.{has_order, ordered_numbers}
use Rattle.order_numbers.proofs.order_units.Goals as goal

pub sorted-requires-clause-tells : goal.sorted-requires-clause-tells
sorted-requires-clause-tells c =
    let t = c.args.table.now in
    (λ i. has_order (unit_of t.bytes.now t.places.now i), record { each = λ i r h e. search (rules, e) })

pub sorted-requires-clause-keyed : goal.sorted-requires-clause-keyed
sorted-requires-clause-keyed c =
    let t = c.args.table.now in
    (rank_at t.bytes.now t.places.now, record { asked = λ i h. search (rules, held _ _ c.requires.1 i h); gives = λ i r h e. search (rules, e) })

-- The closures' facts again, as in `symbol_order::make_order`. To cite the two goals above was tried: a proof can name no place between the call's arguments and the call. A lemma for both
-- functions would be about their closures, which each of them makes.
pub returns : goal.returns
unfolding ordered_numbers
returns c =
    let t = c.args.table.now in
    record {
      small = c.sorted.ensures.small;
      is = c.sorted.ensures.is (λ i. has_order (unit_of t.bytes.now t.places.now i)) (rank_at t.bytes.now t.places.now)
          (record { each = λ i r h e. search (rules, e) })
          (record { asked = λ i h. search (rules, held _ _ c.requires.1 i h); gives = λ i r h e. search (rules, e) });
    }
