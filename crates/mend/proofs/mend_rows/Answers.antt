-- `mend::mend_rows` meets its contract: a turn mends one row more, in a table of which only ends change.
-- Assumes nothing.
use native.Mathlib.Omega.{arith}
use Rattle.splits.proofs.Lent.{ends_same, ends_still}
use Rattle.mend.proofs.Turns.{going, pass_on, pass_full, pass_done}
use Rattle.mend.proofs.mend_rows.Goals as goal

pub loop-i-init : goal.loop-i-init
loop-i-init c = (going _ _ _, ends_same)

pub returns-in_err-at-clause-filled : goal.returns-in_err-at-clause-filled
returns-in_err-at-clause-filled c =
    let a = c.args in
    let l = c.loop-i in
    let t = l.table in
    let o = c.mend_row.ensures.others in
    let q = pass_full a.section_ends.now t.starts.now t.units.now t.rest.now _ a.lines.now t.count t.ends.now l.invariant.0 (omega (arith, l.invariant.1.count, c.loop-i-test.true)) c.mend_row.ensures.turned c.in_err-at.was in
    rw (c.from_residual.ensures, o.starts, o.units, o.rest, o.count) (rw c.in_err-at.was at q)

pub returns-in_err-at-clause-others : goal.returns-in_err-at-clause-others
returns-in_err-at-clause-others c = ends_still c.loop-i.invariant.1 c.mend_row.ensures.others

pub loop-i-preserved : goal.loop-i-preserved
loop-i-preserved c =
    let a = c.args in
    let l = c.loop-i in
    let t = l.table in
    let p = l.invariant.1 in
    let o = c.mend_row.ensures.others in (
      rw (o.starts, o.units, o.rest, o.count)
          (pass_on a.section_ends.now t.starts.now t.units.now t.rest.now _ a.lines.now t.count t.ends.now l.invariant.0 (omega (arith, p.count, c.loop-i-test.true)) c.mend_row.ensures.turned
          (omega arith) _ c.in_ok-at.was),
      ends_still p o,
    )

pub returns-clause-filled : goal.returns-clause-filled
returns-clause-filled c =
    let a = c.args in
    let l = c.loop-i in
    let t = l.table in
    pass_done a.section_ends.now t.starts.now t.units.now t.rest.now _ a.lines.now t.count t.ends.now l.invariant.0 (omega (arith, l.invariant.1.count, c.loop-i-test.false))
