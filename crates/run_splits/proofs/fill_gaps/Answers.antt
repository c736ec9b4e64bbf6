-- The loaded tables meet what the filling asks, and its columns are as long as the ceilings.
use Rattle.std.proofs.Common.{arith}
use Rattle.gaps.proofs.Marks.{clean_zeros}
use Rattle.loaded.proofs.Laws.{few_names, tables-ordered, symbols_sound}
use Rattle.run_splits.proofs.Needs.{images_kept, section_short, gaps_roomy}
use Rattle.run_splits.proofs.fill_gaps.Goals as goal

pub create_gap_splits-requires : goal.create_gap_splits-requires
create_gap_splits-requires c =
    let q = c.requires in
    let t = c.args.table.now in
    rw (c.obj.ensures, c.image.ensures) (
      tables-ordered q.0.usable _ q.0.order_is,
      images_kept q.0.usable _ q.0.images_are,
      symbols_sound q.0.usable,
      clean_zeros 4096,
      few_names q.0.usable,
      gaps_roomy q.0.usable t.count t.room _ t.fits q.1 (omega arith),
      q.0.indexed,
      section_short q.0.usable,
    )

pub returns-clause-tables : goal.returns-clause-tables
returns-clause-tables c = rw (c.obj.ensures, c.image.ensures) at c.create_gap_splits.ensures.tables
