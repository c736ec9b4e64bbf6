-- `common::records` meets its contract. Assumes nothing.
use native.Mathlib.Omega.{arith}
use mathlib.Core.Path.{refl, ◌∙◌}
use lib.ListN.{length-set, length-replicate}
use Rattle.lists.proofs.Rows.{fill_turn, fill_done}
use Rattle.obj.specs.declared.Split.{Split}
use Rattle.obj.specs.Nothing.{no_split}
use Rattle.splits.specs.Columns.{row_at}
use Rattle.splits.specs.Table.{columns_of}
use Rattle.common.proofs.records.Goals as goal

pub loop-i-init : goal.loop-i-init
loop-i-init c = (length-replicate {A = Split} 1024 no_split, refl)

pub loop-i-preserved : goal.loop-i-preserved
loop-i-preserved c =
    let l = c.loop-i in
    let a = c.args in (
      length-set l.table l.i c.row.result ∙ l.invariant.0,
      fill_turn (row_at (columns_of a.splits.now)) a.splits.now.count l.i l.table c.row.result c.loop-i-test.true (let q = l.invariant.0 in omega arith) c.row.ensures l.invariant.1,
    )

pub returns : goal.returns
returns c =
    let l = c.loop-i in
    let a = c.args in
    fill_done (row_at (columns_of a.splits.now)) a.splits.now.count l.i l.table (omega arith) l.invariant.1
