-- The rows are stored at the front, and what follows them is cleared.
use mathlib.Core.Path.{ap, ◌∙◌}
use native.Mathlib.Omega.{arith}
use Prim.Native.Nat.{◌*◌}
use Rattle.lists.specs.Rows.{clear_from}
use Rattle.lists.proofs.Rows.{length-tabulate}
use Rattle.obj.specs.Records.{split_width}
use Rattle.outputs.proofs.Laws.{laid-after}
use Rattle.splits.specs.Columns.{row_at, rows}
use Rattle.splits.specs.Table.{columns_of}
use Rattle.splits.specs.Bytes.{table_bytes}
use Rattle.splits.proofs.Bytes.{length-table_bytes}
use Rattle.stage_splits.proofs.put_splits.Goals as goal

pub returns : goal.returns
returns c =
    let a = c.args in
    let t = columns_of a.splits.now in
    let l = rows t a.splits.now.count in
    let m = length-table_bytes l in
    let k = length-tabulate (row_at t) 0 a.splits.now.count in
    c.clear_from.ensures
    ∙ ap (clear_from 0 (split_width * a.splits.now.count)) c.store.ensures
    ∙ laid-after a.out.now (table_bytes l) (split_width * a.splits.now.count) (omega (arith, m, k)) (omega (arith, m, k, c.requires))
