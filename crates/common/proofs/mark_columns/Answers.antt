-- `common::mark_columns` meets its contract: a turn marks one row more, and only its rest changes.
-- Assumes nothing.
use native.Mathlib.Omega.{arith}
use mathlib.Core.Path.{◌≡◌, refl, ◌∙◌}
use lib.ListN.{length-set}
use Rattle.common.proofs.Marking.{marking_start, marking_more, marking_done}
use Rattle.lists.proofs.Slices.{slice_same}
use Rattle.common.proofs.mark_columns.Goals as goal

pub loop-i-init : goal.loop-i-init
loop-i-init c = (marking_start _ _ _ _, record { starts = refl; ends = refl; units = refl; rest = slice_same; count = refl })

pub loop-i-preserved : goal.loop-i-preserved
loop-i-preserved c =
    let l = c.loop-i in
    let a = c.args in
    let t = a.table.now in
    let o = l.invariant.1 in
    let v = c.marked_rest.result in (
      marking_more a.from.section a.from.address t.starts.now t.rest.now l.table.rest.now l.i v (omega (arith, o.count, c.loop-i-test.true)) (rw o.starts at c.marked_rest.ensures) l.invariant.0,
      record {
        starts = o.starts;
        ends = o.ends;
        units = o.units;
        rest = record { name = o.rest.name; size = length-set l.table.rest.now l.i v ∙ o.rest.size };
        count = o.count;
      },
    )

pub returns-clause-rows : goal.returns-clause-rows
returns-clause-rows c =
    let l = c.loop-i in
    let a = c.args in
    let t = a.table.now in
    let o = l.invariant.1 in
    let e : l.i ≡ t.count = omega arith in
    rw (o.starts, o.ends, o.units, o.count)
    (marking_done a.from.section a.from.address t.starts.now t.rest.now t.ends.now t.units.now l.table.rest.now t.count (rw e at l.invariant.0))
