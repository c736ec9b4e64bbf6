-- The scratch has room for all that the filling may find, and what it left is given.
use Rattle.std.proofs.Common.{arith, length}
use Rattle.names.proofs.Laws.{length-names}
use Rattle.stage_gaps.proofs.fill_rows.Goals as goal

pub create_gap_splits-requires : goal.create_gap_splits-requires
create_gap_splits-requires c =
    let a = c.args in
    let n = a.tables.now.obj.names in
    let q = c.requires in
    let p = a.tables.now.passed in
    let count = length-names n.bytes.now n.places.now n.lengths.now (length n.places.now) in (
      p.tables,
      p.headed.kept,
      p.sound,
      q.unmarked,
      omega (arith, q.space.few, count),
      omega (arith, q.gaps, p.headed.kept.few, a.table.now.fits, q.few, p.few),
      p.names.indexed,
      p.headed.short,
    )
