-- `symbol_order::search::first_at`: the first place with such a key is one of the column's, or its end.
use Prim.Native.Nat.{zero-le}
use Rattle.lists.proofs.FirstIn.{first_in_le}
use Rattle.symbol_order.proofs.search.first_at.Goals as goal

pub returns-clause-first : goal.returns-clause-first
returns-clause-first g c = λ k h. c.halve.ensures.first k h zero-le (first_in_le _ c.args.s.now)
