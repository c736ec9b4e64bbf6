-- `trim::last_of` meets its contract: `find` goes down from the last row.
use native.Mathlib.Omega.{arith}
use Rattle.std.proofs.Common.{rules}
use mathlib.Core.Path.{◌≡◌}
use mathlib.Core.Bool.{true, false}
use Prim.Native.Nat.{ℕ, ◌-◌, ◌+◌, ◌≤◌, ◌<◌}
use lib.Dec.{eqb}
use borrow.Author.Tests.{tests, eqb-true}
use Rattle.lists.specs.Rows.{tabulate, some}
use Rattle.trim.specs.Steps.{LastOf}
use Rattle.trim.proofs.Cut.{none_rows}
use Rattle.std.specs.Prelude.{Option, None, Some, MatchOption}
use Rattle.splits.specs.Columns.{Columns, row_at}
use Rattle.splits.specs.Table.{columns_of}
use Rattle.lists.proofs.Backwards.{last_from_Range}
use Rattle.trim.proofs.last_of.Goals as goal

-- what the search from behind says, as the contract has it
last : (section : ℕ) (cols : Columns) (n : ℕ) (r : Option ℕ)
    → MatchOption r ((k : ℕ) → 0 ≤ k → k < n → eqb (row_at cols k).section section ≡ false)
    (λ i. (0 ≤ i) × (i < n) × (eqb (row_at cols i).section section ≡ true) × ((k : ℕ) → i < k → k < n → eqb (row_at cols k).section section ≡ false))
    → MatchOption r (some (λ y. eqb y.section section) (tabulate (row_at cols) 0 n) ≡ false) (LastOf section cols n)
last section cols n None h = none_rows section 0 (row_at cols) n n 0 (λ k a b. h k a (omega arith))
last section cols n (Some i) h = record {
  small = h.1;
  none_after = none_rows section 0 (row_at cols) n (n - (i + 1)) (i + 1) (λ k a b. h.3 k (omega arith) (omega (arith, h.1)));
  is = eqb-true _ _ h.2;
}

pub returns : goal.returns
returns c =
    let n = c.args.splits.now.count in
    let cols = columns_of c.args.splits.now in
    last c.args.section cols n c.find.result
    (rw c.rev.ensures.source at
    (last_from_Range c.rev.result _ _ c.find.result (λ j. eqb (row_at cols j).section c.args.section ≡ true) (λ j. eqb (row_at cols j).section c.args.section ≡ false)
    c.find.ensures.ran (λ x q k. search (rules, tests)) (λ x q k. search (rules, tests))))
