-- What the records on tables give: the numbers of the units that have an order can be read. Assumes nothing.
use mathlib.Core.Path.{◌≡◌, sym, subst}
use mathlib.Core.List.{List}
use Prim.Native.Nat.{ℕ, ◌<◌}
use lib.ListN.{length}
use Rattle.lists.specs.Sort.{All}
use Rattle.lists.proofs.All.{all_keep, all_sort}
use Rattle.lists.proofs.Rising.{numbers-below}
use Rattle.symbol_order.specs.Order.{ReadableRecords}
use Rattle.symbol_order.specs.Keys.{rank_at}
use Rattle.order_numbers.specs.Numbers.{ordered_numbers, Whole}

-- the units that have an order, lowest first
pub ordered_readable : (b places s : List ℕ) → Whole b places → s ≡ ordered_numbers b places → ReadableRecords 8 b places s
unfolding ordered_numbers
ordered_readable b places s w e = record {
  whole = w;
  inside = subst (λ (l : List ℕ). All (λ i. i < length places) l) (sym e) (all_sort (rank_at b places) (all_keep _ (numbers-below (length places))));
}
