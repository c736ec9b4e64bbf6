-- `splits::next_of_unit` meets its contract: the first number that passes is the place of the first row that does.
-- Assumes nothing.
use Rattle.std.proofs.Common.{rules}
use Rattle.splits.specs.Columns.{row_of, row_at}
use Rattle.splits.specs.Table.{columns_of}
use Rattle.splits.specs.Questions.{of_unit}
use Rattle.splits.proofs.Blocks.{units_none, first_hit}
use Rattle.splits.proofs.next_of_unit.Goals as goal

pub returns : goal.returns
unfolding row_of
returns c =
    let a = c.args in
    let c₀ = columns_of a.splits.now in
    first_hit (of_unit a.section a.unit) c₀ a.splits.now.count a.at _ c.requires
    (c.first_by_blocks.ensures (λ k. of_unit a.section a.unit (row_at c₀ k)) (λ k r h q. search rules) (λ i h q. units_none a.section a.unit c₀ i 32 (search rules)))
