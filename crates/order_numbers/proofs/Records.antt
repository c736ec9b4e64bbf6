-- The units that have an order, by the numbers of their records and as records: the records of `ordered_numbers` are `ordered`, and an order number stands
-- twice exactly where two neighbours of `ordered_numbers` have the same. Assumes nothing.
use Prim.Native.Nat.{ℕ, ◌≤◌}
use mathlib.Core.Path.{◌≡◌, refl, sym, ap, ◌∙◌}
use mathlib.Core.List.{List, map, map-map}
use native.Mathlib.Omega.{arith}
use lib.ListN.{length}
use Rattle.lists.specs.Rows.{tabulate, keep_if}
use Rattle.lists.specs.Sort.{sort_by}
use Rattle.lists.proofs.Parts.{tabulate-map, tabulate_list}
use Rattle.lists.proofs.Filter.{map_keep}
use Rattle.lists.proofs.Ranks.{length-kept}
use Rattle.lists.proofs.Rows.{length-tabulate}
use Rattle.lists.proofs.Sort.{map_sort, length_sort}
use Rattle.obj.specs.Records.{unit_at}
use Rattle.tables.specs.Records.{units_in}
use Rattle.symbol_order.specs.Keys.{rank_of, unit_of, rank_at}
use Rattle.order_numbers.specs.Numbers.{has_order, ordered, twice, order_twice, unsorted, ordered_numbers, next_same}
use Rattle.order_numbers.proofs.Twice.{sorted_twice}

module _ (b places : List ℕ) where
  -- no more units have an order than there are
  pub length-ordered : length (ordered_numbers b places) ≤ length places
  unfolding ordered_numbers
  length-ordered =
      omega (
        arith,
        length_sort (rank_at b places) (unsorted b places),
        length-kept (λ i. has_order (unit_of b places i)) (tabulate (λ i. i) 0 (length places)),
        length-tabulate (λ i. i) 0 (length places),
      )

  -- the records of all numbers
  all_records : map (unit_of b places) (tabulate (λ i. i) 0 (length places)) ≡ units_in b places
  all_records =
      sym (tabulate-map (unit_of b places) (λ i. i) (unit_of b places) 0 (length places) (λ j m q. refl))
      ∙ tabulate_list (unit_at b) (unit_of b places) places 0 (λ k h. refl)

  unsorted_records : map (unit_of b places) (unsorted b places) ≡ keep_if has_order (units_in b places)
  unsorted_records = map_keep (unit_of b places) has_order (tabulate (λ i. i) 0 (length places)) ∙ ap (keep_if has_order) all_records

  -- THEOREM: the records of the sorted numbers are the sorted records
  pub ordered_records : map (unit_of b places) (ordered_numbers b places) ≡ ordered (units_in b places)
  unfolding ordered ordered_numbers
  ordered_records = map_sort (unit_of b places) rank_of (unsorted b places) ∙ ap (sort_by rank_of) unsorted_records

  -- THEOREM: an order number stands twice where two neighbours have the same
  pub twice_next : next_same (map (rank_at b places) (ordered_numbers b places)) ≡ order_twice (units_in b places)
  unfolding ordered_numbers order_twice
  twice_next =
      ap next_same (map_sort (rank_at b places) (λ x. x) (unsorted b places))
      ∙ sorted_twice (map (rank_at b places) (unsorted b places))
      ∙ ap twice (sym (map-map rank_of (unit_of b places) (unsorted b places)) ∙ ap (map rank_of) unsorted_records)
