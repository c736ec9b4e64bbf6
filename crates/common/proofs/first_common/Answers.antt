-- `common::first_common` meets its contract. Assumes nothing.
use Rattle.std.proofs.Common.{rules, ◌≡◌, true, false}
use Prim.Native.Nat.{zero-le}
use Rattle.std.proofs.lemmas.Iterator.{first_from_Range}
use Rattle.splits.specs.Columns.{row_of, row_at}
use Rattle.splits.specs.Table.{columns_of}
use Rattle.common.specs.Common.{common_in}
use Rattle.common.proofs.Laws.{first_found}
use Rattle.common.proofs.first_common.Goals as goal

pub returns : goal.returns
unfolding row_of
returns c =
    let a = c.args in
    let p = common_in a.section in
    let f = row_at (columns_of a.splits.now) in
    first_found p f a.splits.now.count 0 c.find.result zero-le
    (first_from_Range _ _ _ c.find.result (λ k. p (f k) ≡ true) (λ k. p (f k) ≡ false) c.find.ensures.ran (λ x q z. search rules) (λ x q z. search rules))
