-- `splits::load` meets its contract. Invariant: the first i rows are the splits at the first i places.
-- Assumes nothing.
use mathlib.Core.Path.{ap, ◌∙◌}
use native.Mathlib.Omega.{arith}
use Rattle.lists.proofs.Parts.{tabulate_list}
use Rattle.align.specs.Align.{bad_align}
use Rattle.obj.specs.Records.{split_at}
use Rattle.obj.specs.declared.Split.{Split}
use Rattle.splits.specs.Columns.{row_at}
use Rattle.splits.specs.Table.{columns_in}
use Rattle.splits.proofs.Alignment.{good_alignment}
use Rattle.splits.proofs.load.Goals as goal

pub put_row-requires : goal.put_row-requires
put_row-requires c =
    let s = c.record in
    let aligned = c.requires.0.aligned c.loop-i.i c.loop-i-test.true in (
      omega (arith, c.requires.1, c.loop-i.invariant.1.room),
      good_alignment s.result.alignment (ap (λ (r : Split). bad_align r.alignment) s.ensures ∙ aligned),
    )

pub returns-clause-rows : goal.returns-clause-rows
returns-clause-rows c =
    let l = c.loop-i in
    let a = c.args in
    tabulate_list (split_at a.lent.now.bytes.now) (row_at (columns_in l.table)) a.lent.now.places.now 0 (λ k h. l.invariant.2 k (omega arith))
