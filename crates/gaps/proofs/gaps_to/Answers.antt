-- Each gap begins where the one before ends, and enters.
use Rattle.obj.proofs.Errors.{is_err}
use Rattle.std.proofs.Common.{◌<◌, ◌∙◌, refl, sym, ap, arith}
use Rattle.align.specs.Align.{align_up}
use Rattle.obj.specs.Answers.{meaning}
use Rattle.gaps.proofs.Rounds.{gap_ended}
use Rattle.gaps.proofs.Turns.{turn_start, turn_done, turn_refused, turn_room, turn_on, before_next}
use Rattle.gaps.proofs.gaps_to.Goals as goal

pub loop-current-init : goal.loop-current-init
loop-current-init c = let p = c.requires in record { holds = turn_start _ _ _ _ _ _ _ p.1 p.0; same = record { here = refl; marks = refl } }

pub align_up-requires : goal.align_up-requires
align_up-requires c = let p = c.requires in (omega (arith, c.loop-current.invariant.holds.small, p.2), p.3)

pub returns-then-next-align_up-clause-gaps : goal.returns-then-next-align_up-clause-gaps
returns-then-next-align_up-clause-gaps c =
    turn_done _ _ _ _ _ _ _ c.requires.3 _ _ c.loop-current.invariant.holds (omega (arith, c.if-next-align_up.true, c.align_up.ensures.is))

pub gap_end-requires : goal.gap_end-requires
gap_end-requires c =
    let a = c.args in
    let l = c.loop-current in
    let follows : align_up l.at a.alignment < a.next = omega (arith, c.if-next-align_up.false, c.align_up.ensures.is) in
    before_next _ _ _ _ _ _ _ c.requires.3 _ _ l.invariant.holds follows

pub place_gap-requires : goal.place_gap-requires
place_gap-requires c =
    let a = c.args in
    let l = c.loop-current in
    let follows : align_up l.at a.alignment < a.next = omega (arith, c.if-next-align_up.false, c.align_up.ensures.is) in
    let is = sym (rw l.invariant.same.here at c.gap_end.ensures.end) ∙ ap meaning c.in_ok-end.was in
    turn_room _ _ _ _ _ _ _ c.requires.3 _ _ l.invariant.holds follows _ _ is c.key_of.ensures.is

pub loop-current-smaller : goal.loop-current-smaller
loop-current-smaller c =
    let a = c.args in
    let l = c.loop-current in
    let follows : align_up l.at a.alignment < a.next = omega (arith, c.if-next-align_up.false, c.align_up.ensures.is) in
    let is = sym (rw l.invariant.same.here at c.gap_end.ensures.end) ∙ ap meaning c.in_ok-end.was in
    omega (arith, (gap_ended _ _ _ _ _ _ is).above, before_next _ _ _ _ _ _ _ c.requires.3 _ _ l.invariant.holds follows)

pub loop-current-preserved : goal.loop-current-preserved
loop-current-preserved c =
    let a = c.args in
    let l = c.loop-current in
    let p = c.place_gap in
    let same = c.gap_end.ensures.same in
    let follows : align_up l.at a.alignment < a.next = omega (arith, c.if-next-align_up.false, c.align_up.ensures.is) in
    let is = sym (rw l.invariant.same.here at c.gap_end.ensures.end) ∙ ap meaning c.in_ok-end.was in
    record {
      holds = turn_on _ _ _ _ _ _ _ c.requires.3 _ _ l.invariant.holds follows _ _ is c.key_of.ensures.is
          p.new.found (omega (arith, l.invariant.holds.small, c.requires.2)) p.ensures.lent p.ensures.gaps;
      same = record { here = same.here ∙ l.invariant.same.here; marks = same.marks ∙ l.invariant.same.marks };
    }

pub returns-in_err-end-clause-gaps : goal.returns-in_err-end-clause-gaps
returns-in_err-end-clause-gaps c =
    let a = c.args in
    let l = c.loop-current in
    let follows : align_up l.at a.alignment < a.next = omega (arith, c.if-next-align_up.false, c.align_up.ensures.is) in
    let is = sym (rw l.invariant.same.here at c.gap_end.ensures.end) ∙ ap meaning c.in_err-end.was in
    rw (is_err _ c.from_residual.ensures.1) (turn_refused _ _ _ _ _ _ _ c.requires.3 _ _ l.invariant.holds follows _ _ _ is)
