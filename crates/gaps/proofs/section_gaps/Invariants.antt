-- `gaps::section_gaps` meets its contract. Invariant (`Walking`): the gaps over the splits from the next one on enter after those found as all of the section
-- after those that were there, and the table has room for them.
use Prim.Native.Nat.{◌-◌, ◌<◌}
use Rattle.std.specs.Prelude.{IfSome, unwrap_or}
use Rattle.splits.specs.Table.{columns_of}
use Rattle.gaps.specs.Search.{symbol_in, count_in, SameSearch}
use Rattle.gaps.proofs.Passes.{Walking}
use Rattle.gaps.proofs.section_gaps.Given as goal

abbrev pub invariant-loop-next : goal.invariant-loop-next
invariant-loop-next l =
    let here = l.initial.search.here in
    record {
      holds : Walking (symbol_in here) (count_in here) here.section here.least l.end l.start (columns_of l.splits) l.splits.count l.initial.found l.found l.current (unwrap_or l.next l.splits.count);
      there : IfSome l.next (λ i. i < l.splits.count);
      same : SameSearch l.initial.search l.search;
    }

abbrev pub decreases-loop-next : goal.decreases-loop-next
decreases-loop-next l = l.splits.count - unwrap_or l.next l.splits.count
