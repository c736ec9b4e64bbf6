-- `order_numbers::order_twice`: some unit repeats the order number before it where two neighbours are the same.
use Rattle.std.proofs.Common.{rules}
use Rattle.std.proofs.lemmas.Iterator.{YieldsList-from_range, serves_from_Range}
use Rattle.std.proofs.lemmas.Iterator.Search.{any_from_yields_List}
use mathlib.Core.Path.{refl, ap, ◌∙◌}
use mathlib.Core.List.{List, map}
use Prim.Native.Nat.{ℕ, ◌-◌}
use lib.Dec.{eqb}
use lib.ListN.{length, get_or}
use borrow.Author.Tests.{tests}
use Rattle.symbol_order.specs.Keys.{rank_at}
use Rattle.order_numbers.specs.Numbers.{next_same}
use Rattle.order_numbers.proofs.Parts.{ordered_readable}
use Rattle.order_numbers.proofs.Twice.{any_repeated}
use Rattle.order_numbers.proofs.Records.{twice_next}
use Rattle.order_numbers.proofs.order_twice.Goals as goal

pub any-requires-clause-callable : goal.any-requires-clause-callable
any-requires-clause-callable c =
    serves_from_Range (λ x q h. search (rules, tests)) (λ x low h. search (rules, low, h, ordered_readable _ _ _ c.requires.0 c.requires.1))

pub returns : goal.returns
returns c =
    let t = c.args.table.now in
    let s = c.args.s.now in
    let k = rank_at t.bytes.now t.places.now in
    any_from_yields_List (λ i. eqb (k (get_or s (i - 1) 0)) (k (get_or s i 0))) _ _ c.any.result c.any.ensures.ran (YieldsList-from_range 1 (length s) (length s - 1) refl refl)
    (λ x b q h. search (rules, tests))
    ∙ any_repeated k s (length s) refl
    ∙ ap (λ (l : List ℕ). next_same (map k l)) c.requires.1
    ∙ twice_next t.bytes.now t.places.now
