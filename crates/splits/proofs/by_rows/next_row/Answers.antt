-- `splits::next_row` meets its contract: the row that `find` stops at is in the range, and of those from `at` on none before it is.
-- Assumes nothing.
use Rattle.std.proofs.Common.{rules, ◌≡◌, true, false, MatchOption, None, Some, Option, ℕ, ◌≤◌, ◌<◌}
use Rattle.std.proofs.lemmas.Iterator.{first_from_Range}
use mathlib.Core.Bool.{Bool}
use borrow.Author.Tests.{tests}
use Rattle.obj.specs.declared.Split.{Split}
use Rattle.splits.specs.Columns.{Columns, row_of, row_at}
use Rattle.splits.specs.Table.{columns_of}
use Rattle.splits.specs.Questions.{in_range, FirstPlace}
use Rattle.splits.proofs.by_rows.next_row.Goals as goal

first : (p : Split → Bool) (c : Columns) (at n : ℕ) (r : Option ℕ)
    → MatchOption r ((k : ℕ) → at ≤ k → k < n → p (row_at c k) ≡ false)
    (λ i. (at ≤ i) × (i < n) × (p (row_at c i) ≡ true) × ((k : ℕ) → at ≤ k → k < i → p (row_at c k) ≡ false))
    → FirstPlace p c at n r
first p c at n None none = none
first p c at n (Some i) h = record { past = h.0; small = h.1; none = h.3; passes = h.2 }

pub returns : goal.returns
unfolding row_of
returns c =
    let a = c.args in
    let p = in_range a.range in
    let f = row_at (columns_of a.splits.now) in
    first p (columns_of a.splits.now) a.at a.splits.now.count c.find.result
    (first_from_Range _ _ _ c.find.result (λ i. p (f i) ≡ true) (λ i. p (f i) ≡ false) c.find.ensures.ran (λ x q k. search (rules, tests)) (λ x q k. search (rules, tests)))
