-- `splits::next_within` meets its contract: the first number that passes is the place of the first row in the range.
-- Assumes nothing.
use Rattle.std.proofs.Common.{rules}
use Rattle.splits.specs.Columns.{row_of, row_at}
use Rattle.splits.specs.Table.{columns_of}
use Rattle.splits.specs.Questions.{in_range}
use Rattle.splits.proofs.Blocks.{starts_none}
use Rattle.splits.proofs.next_within.Goals as goal

pub returns : goal.returns
unfolding row_of
returns c =
    let a = c.args in
    let c₀ = columns_of a.splits.now in
    c.first_by_blocks.ensures (λ k. in_range a.range (row_at c₀ k)) (λ k r h q. search rules) (λ i h q. starts_none a.range.section a.range.from a.range.to c₀ i 32 (search rules))
