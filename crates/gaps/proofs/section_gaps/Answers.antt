-- The gaps before each split enter, up to the splitting end.
use Rattle.std.proofs.Common.{◌<◌, ◌+◌, ◌∙◌, refl, sym, ap, arith}
use Rattle.obj.proofs.Errors.{is_err}
use Rattle.splits.specs.Table.{columns_of}
use Rattle.gaps.specs.Gaps.{below}
use Rattle.gaps.specs.Found.{searched}
use Rattle.splits.proofs.Next.{next_small}
use Rattle.gaps.proofs.Passes.{first_below, walk_start, walk_done, walk_last, walk_low, walk_aligned, walk_room, walk_refused, walk_on, space_before}
use Rattle.gaps.proofs.section_gaps.Goals as goal

pub loop-next-init : goal.loop-next-init
loop-next-init c =
    let a = c.args in
    let h = a.search.now.here in
    let k = columns_of a.splits.now in
    let first = c.next_row-next.result in
    let is = first_below h.section a.end k 0 a.splits.now.count first c.next_row-next.ensures in
    record {
      holds = walk_start _ _ _ h.least _ _ k a.splits.now.count _ first is c.requires.0;
      there = next_small (below h.section a.end) k a.splits.now.count 0 first is;
      same = record { here = refl; marks = refl };
    }

pub returns-then-end-current-clause-gaps : goal.returns-then-end-current-clause-gaps
returns-then-end-current-clause-gaps c =
    let h = c.args.search.now.here in
    walk_done _ _ _ _ _ _ _ _ _ h.sound h.good _ _ _ c.loop-next.invariant.holds c.if-end-current.true

pub gaps_before-requires : goal.gaps_before-requires
gaps_before-requires c =
    let p = c.requires in
    let h = c.args.search.now.here in
    let l = c.loop-next in
    let w = rw c.in-Some.is at l.invariant.holds in
    let t : c.in-Some.i < c.args.splits.now.count = rw c.in-Some.is at l.invariant.there in
    let low = walk_low _ _ _ _ _ _ _ _ _ h.sound h.good _ _ _ w t _ c.row-s.ensures in
    rw l.invariant.same.here (
      walk_room _ _ _ _ _ _ _ _ _ h.sound h.good _ _ _ w t _ c.row-s.ensures,
      omega (arith, low, p.1),
      walk_aligned _ _ _ _ _ _ _ _ _ h.sound h.good _ _ _ w t _ c.row-s.ensures,
    )

pub returns-in_err-gaps_before-clause-gaps : goal.returns-in_err-gaps_before-clause-gaps
returns-in_err-gaps_before-clause-gaps c =
    let h = c.args.search.now.here in
    let l = c.loop-next in
    let g = c.gaps_before in
    let w = rw c.in-Some.is at l.invariant.holds in
    let t : c.in-Some.i < c.args.splits.now.count = rw c.in-Some.is at l.invariant.there in
    rw (is_err _ c.from_residual.ensures.1) (
    walk_refused _ _ _ _ _ _ _ _ _ h.sound h.good _ _ _ w t _ c.row-s.ensures c.if-end-current.false _ _ _
    (sym (ap (searched g.new.found) c.in_err-gaps_before.was) ∙ rw l.invariant.same.here at g.ensures.gaps)
    )

pub loop-next-preserved : goal.loop-next-preserved
loop-next-preserved c =
    let a = c.args in
    let h = a.search.now.here in
    let l = c.loop-next in
    let g = c.gaps_before in
    let w = rw c.in-Some.is at l.invariant.holds in
    let t : c.in-Some.i < c.args.splits.now.count = rw c.in-Some.is at l.invariant.there in
    let k = columns_of a.splits.now in
    let next = c.next_row-next-in-Some.result in
    let is = first_below h.section a.end k (c.in-Some.i + 1) a.splits.now.count next c.next_row-next-in-Some.ensures in
    record {
      holds = walk_on _ _ _ _ _ _ _ _ _ h.sound h.good _ _ _ w t _ c.row-s.ensures c.if-end-current.false
          g.new.found c.end_after-current.result next g.ensures.lent
          (sym (ap (searched g.new.found) c.in_ok-gaps_before.was) ∙ rw l.invariant.same.here at g.ensures.gaps)
          is c.end_after-current.ensures;
      there = next_small (below h.section a.end) k a.splits.now.count (c.in-Some.i + 1) next is;
      same = record { here = g.ensures.same.here ∙ l.invariant.same.here; marks = g.ensures.same.marks ∙ l.invariant.same.marks };
    }

pub returns-then-end-current-2-clause-gaps : goal.returns-then-end-current-2-clause-gaps
returns-then-end-current-2-clause-gaps c =
    let h = c.args.search.now.here in
    walk_done _ _ _ _ _ _ _ _ _ h.sound h.good _ _ _ c.loop-next.invariant.holds c.if-end-current-2.true

pub gaps_to-requires : goal.gaps_to-requires
gaps_to-requires c =
    let p = c.requires in
    let l = c.loop-next in
    let h = c.if-end-current-2.false in
    rw l.invariant.same.here (space_before _ _ _ _ _ _ _ _ (omega arith) l.invariant.holds.space, omega (arith, h), p.1, c.args.search.now.here.good)

pub returns-clause-gaps : goal.returns-clause-gaps
returns-clause-gaps c =
    let h = c.args.search.now.here in
    let l = c.loop-next in
    let w = rw c.in_default.is at l.invariant.holds in
    rw l.invariant.same.here at c.gaps_to.ensures.gaps ∙ walk_last _ _ _ _ _ _ _ _ _ h.sound h.good _ _ _ w (omega arith)
