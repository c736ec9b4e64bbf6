-- `gaps::gaps_to` meets its contract. Invariant (`Turning`): the gaps from `at` on enter after those found as all from `current` on after those that were
-- there, and the table has room for them.
use Prim.Native.Nat.{◌-◌}
use Rattle.gaps.specs.Search.{symbol_in, count_in, SameSearch}
use Rattle.gaps.proofs.Turns.{Turning}
use Rattle.gaps.proofs.gaps_to.Given as goal

abbrev pub invariant-loop-current : goal.invariant-loop-current
invariant-loop-current l =
    let here = l.initial.search.here in
    record { holds : Turning (symbol_in here) (count_in here) here.section l.current l.next l.alignment l.initial.found l.found l.at; same : SameSearch l.initial.search l.search }

abbrev pub decreases-loop-current : goal.decreases-loop-current
decreases-loop-current l = l.next - l.at
