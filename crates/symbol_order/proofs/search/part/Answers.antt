-- `symbol_order::search::part`: between the first places of two keys stand the keys between them, none if the second is not later.
-- The first place of a later key is not earlier, so the second search may begin where the first ended.
use native.Mathlib.Omega.{arith}
use mathlib.Core.Path.{sym, subst}
use Prim.Native.Nat.{ℕ, ◌≤◌}
use Rattle.lists.specs.Rows.{first_in}
use Rattle.lists.specs.Sort.{at_least}
use Rattle.lists.proofs.Between.{first_later, part-some, part_none}
use Rattle.symbol_order.proofs.search.part.Goals as goal

pub returns-then-high-low : goal.returns-then-high-low
returns-then-high-low g c = λ k h. part_none k 0 _ h.sorted _ _ c.if-high-low.true

pub returns : goal.returns
returns g c = λ k h.
    let s = c.args.s.now in
    let from = c.first_at-from.ensures.first k h in
    let later = first_later k 0 s h.sorted c.args.low c.args.high (omega arith) in
    let to = c.first_from-to.ensures.first k h (subst (λ (m : ℕ). m ≤ first_in (at_least k c.args.high) s) (sym from) later) in
    part-some k 0 s h.sorted _ _ _ _ from to
