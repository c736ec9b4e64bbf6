-- Each gap enters as the definition lets it enter, and leaves the tables of the next one.
use Rattle.std.proofs.Common.{refl, arith, length}
use Rattle.obj.proofs.Errors.{is_err}
use Rattle.tables.specs.Records.{sections_in}
use Rattle.splits.proofs.Lent.{lent_same as table_same, lent_still as table_still}
use Rattle.merge.specs.Merge.{given}
use Rattle.gap_splits.specs.Added.{beside}
use Rattle.gap_splits.specs.Answers.{sections_named, ceilings_in}
use Rattle.gap_splits.proofs.Lent.{lent_same, lent_still}
use Rattle.gap_splits.proofs.Naming.{stand_none, none_added}
use Rattle.gap_splits.proofs.Turns.{starts, goes_on, refused_here, all_entered, gap_here, section_here, absent_here}
use Rattle.gap_splits.proofs.enter_gaps.Goals as goal

pub invariant_of-added : goal.invariant_of-added
invariant_of-added c = let a = c.args.added.now in record { stand = stand_none (beside a.bytes.now a.places.now a.lengths.now) a.most.names a.most.bytes a.stand.room }

pub loop-i-init : goal.loop-i-init
loop-i-init c =
    let a = c.args.added.now in (
      starts _ _ _ _ _ _ _ _ _ (none_added (beside a.bytes.now a.places.now a.lengths.now)),
      lent_same,
      table_same,
    )

pub section_of_key-section-requires : goal.section_of_key-section-requires
section_of_key-section-requires c =
    let q = c.requires in
    let s = section_here _ _ _ _ q.2 _ c.loop-i-test.true in
    omega (arith, s, q.1.few)

pub enter_gap-requires : goal.enter_gap-requires
enter_gap-requires c =
    let a = c.args in
    let q = c.requires in
    let l = c.loop-i in
    let t = c.loop-i-test.true in
    let g = a.gaps.now in
    let es = c.section_of_key-section.ensures in
    let ef = c.address_of_key-start.ensures in (
      rw es (section_here _ _ _ _ q.2 _ t),
      absent_here (sections_named a.heads.now a.table_names.now) (given (sections_in a.heads.now.bytes.now a.heads.now.places.now) a.table.now.room) (ceilings_in a.table_names.now a.added.now) g.keys.now g.ends.now _ l.i es ef
          (l.invariant.0.fresh l.i (omega arith) t),
    )

pub returns-in_err-enter_gap-clause-tables : goal.returns-in_err-enter_gap-clause-tables
returns-in_err-enter_gap-clause-tables c =
    let a = c.args in
    let l = c.loop-i in
    let o = c.enter_gap in
    let g = a.gaps.now in
    let here = gap_here g.keys.now g.ends.now l.i c.section_of_key-section.ensures c.address_of_key-start.ensures in
    let e = rw (l.invariant.1.most, l.invariant.1.most_bytes, l.invariant.2.room) at o.ensures.tables in
    rw (is_err _ c.from_residual.ensures.1) (refused_here _ _ _ _ _ _ _ _ _ _ l.i l.invariant.0 c.loop-i-test.true _ _ _ here e.is c.in_err-enter_gap.was)

pub loop-i-preserved : goal.loop-i-preserved
loop-i-preserved c =
    let a = c.args in
    let q = c.requires in
    let l = c.loop-i in
    let o = c.enter_gap in
    let g = a.gaps.now in
    let same = l.invariant.1 in
    let here = gap_here g.keys.now g.ends.now l.i c.section_of_key-section.ensures c.address_of_key-start.ensures in
    let e = rw (same.most, same.most_bytes, l.invariant.2.room) at o.ensures.tables in (
      goes_on _ _ _ _ _ _ _ _ _ _ l.i l.invariant.0 c.loop-i-test.true (length a.heads.now.places.now) q.2 q.1.few _ _ here e c.in_ok-enter_gap.was,
      lent_still same o.ensures.added,
      table_still l.invariant.2 o.ensures.lent,
    )

pub returns-clause-tables : goal.returns-clause-tables
returns-clause-tables c =
    let l = c.loop-i in
    all_entered _ _ _ _ _ _ _ _ _ _ l.i l.invariant.0 c.loop-i-test.false
