-- `merge::check_place` meets its contract: 20 and 21, in the definition's order.
-- Assumes nothing.
use mathlib.Core.Path.{ap, ◌∙◌}
use Rattle.merge.specs.Merge.{section_end}
use Rattle.merge.proofs.Decisions.{decide_20, decide_21, decide_own}
use Rattle.merge.proofs.check_place.Goals as goal

pub returns-then-heads-section : goal.returns-then-heads-section
returns-then-heads-section c = rw c.refuse_at.ensures (λ room rows. let t = c.args.heads.now.table in decide_20 t.bytes.now t.places.now room rows c.args.s c.if-heads-section.true)

pub returns-then-s-limit : goal.returns-then-s-limit
returns-then-s-limit c = rw c.refuse_at-then-s-limit.ensures (
    λ room rows.
    let t = c.args.heads.now.table in
    let e = c.end-limit.ensures ∙ ap section_end c.record.ensures in
    decide_21 t.bytes.now t.places.now room rows c.args.s c.if-heads-section.false _ e c.if-s-limit.true)

pub returns : goal.returns
returns c =
    λ room rows.
    let t = c.args.heads.now.table in
    let e = c.end-limit.ensures ∙ ap section_end c.record.ensures in
    decide_own t.bytes.now t.places.now room rows c.args.s c.if-heads-section.false _ e c.if-s-limit.false
