-- `piece_order::order_pieces` meets its contract: the numbers are sorted by the keys of their pieces.
-- Assumes nothing.
use native.Mathlib.Omega.{arith}
use mathlib.Core.Path.{sym, ap, subst, ◌∙◌}
use Prim.Native.Nat.{ℕ, ◌<◌}
use lib.ListN.{length}
use Rattle.std.proofs.Common.{rules}
use Rattle.lists.specs.Sort.{All, sort_by}
use Rattle.lists.proofs.All.{all_map}
use Rattle.lists.proofs.Rising.{numbers-below}
use Rattle.symbol_order.specs.Order.{numbers}
use Rattle.piece_order.specs.Order.{part_in, key_of, order_in}
use Rattle.piece_order.proofs.order_pieces.Goals as goal
use Rattle.piece_order.proofs.order_pieces.Goals.{After-fill_numbers}

-- as many numbers as there are pieces
inside : (c : After-fill_numbers) → All (λ i. i < length c.args.starts.now) c.fill_numbers.new.order
inside c = subst (All (λ i. i < length c.args.starts.now)) (sym (c.fill_numbers.ensures ∙ ap numbers c.requires.2)) (numbers-below (length c.args.starts.now))

pub sort-requires : goal.sort-requires
sort-requires c =
    let a = c.args in
    let all = inside (goal.at.sort-requires c).After-fill_numbers in (
      omega (arith, c.fill_numbers.auto.order, c.requires.1, c.requires.2),
      (
        λ i. key_of (part_in a.b.now a.starts.now i),
        record { asked = all_map (λ i h. search (rules, c.requires.0, h)) all; gives = all_map (λ i h r e. search (rules, e)) all },
      ),
    )

pub returns : goal.returns
unfolding order_in
returns c =
    let a = c.args in
    let all = inside (goal.at.returns c).After-fill_numbers in
    let k = λ (i : ℕ). key_of (part_in a.b.now a.starts.now i) in
    c.sort.ensures k (record { asked = all_map (λ i h. search (rules, c.requires.0, h)) all; gives = all_map (λ i h r e. search (rules, e)) all })
    ∙ ap (sort_by k) (c.fill_numbers.ensures ∙ ap numbers c.requires.2)
