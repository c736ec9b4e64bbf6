-- `common::put_records` meets its contract: a turn writes one record more into the rest of its row, and nothing else changes.
-- Assumes nothing.
use native.Mathlib.Omega.{arith}
use borrow.Author.Rules.{rules}
use mathlib.Core.Path.{◌≡◌, refl, ◌∙◌}
use lib.ListN.{length, length-set}
use Rattle.lists.proofs.Rows.{unmapped}
use Rattle.common.proofs.Written.{writing_start, writing_more, writing_done}
use Rattle.lists.proofs.Slices.{slice_same}
use Rattle.common.proofs.put_records.Goals as goal

pub loop-i-init : goal.loop-i-init
loop-i-init c = (writing_start _ _ _ _ _, record { starts = refl; ends = refl; units = refl; rest = slice_same; count = refl })

pub loop-i-preserved : goal.loop-i-preserved
loop-i-preserved c =
    let l = c.loop-i in
    let a = c.args in
    let t = a.table.now in
    let o = l.invariant.1 in
    let v = c.rest_of.result in (
      writing_more t.starts.now t.ends.now t.units.now t.rest.now a.records l.table.rest.now t.count l.i v (omega (arith, o.count, c.loop-i-test.true)) c.loop-i-test.true c.requires.1 c.rest_of.ensures l.invariant.0,
      record {
        starts = o.starts;
        ends = o.ends;
        units = o.units;
        rest = record { name = o.rest.name; size = length-set l.table.rest.now l.i v ∙ o.rest.size };
        count = o.count;
      },
    )

pub returns-clause-rows : goal.returns-clause-rows
returns-clause-rows c =
    let l = c.loop-i in
    let a = c.args in
    let t = a.table.now in
    let o = l.invariant.1 in
    let e : l.i ≡ t.count = omega arith in
    let long : length a.records ≡ 1024 = search (rules, unmapped) in
    rw (o.starts, o.ends, o.units, o.count)
    (writing_done t.starts.now t.ends.now t.units.now t.rest.now a.records l.table.rest.now t.count (omega (arith, long, c.requires.0)) (rw e at l.invariant.0))
