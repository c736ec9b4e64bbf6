-- `merge::decide_old` meets its contract: each return is a rule, in its order, and the joint range has the rest.
-- Assumes nothing.
use mathlib.Core.Path.{sym, ◌∙◌}
use Rattle.merge.proofs.Decisions.{old_23, old_24, old_inside, old_joint, good_joint, common_same, common-apart, answers}
use Rattle.merge.proofs.decide_old.Goals as goal

pub returns-then-new-old : goal.returns-then-new-old
returns-then-new-old c = let a = c.args in answers _ c.refuse_at.ensures (old_23 _ a.new a.old c.if-new-old.true)

pub returns-then-is_common : goal.returns-then-is_common
returns-then-is_common c =
    let a = c.args in
    answers _ c.refuse_at-then-is_common.ensures (old_24 _ a.new a.old c.if-new-old.false (common-apart a.new a.old _ _ c.is_common.ensures c.is_common-2.ensures c.if-is_common.true))

pub returns-then-old-new : goal.returns-then-old-new
returns-then-old-new c = let a = c.args in (sym (old_inside _ a.new a.old c.if-new-old.false (common_same a.new a.old _ _ c.is_common.ensures c.is_common-2.ensures c.if-is_common.false) c.if-old-new.true), tt)

pub decide_joint-requires : goal.decide_joint-requires
decide_joint-requires c = rw c.joint_of.ensures (good_joint c.args.new c.args.old c.requires.0 c.requires.1)

pub returns : goal.returns
returns c =
    let a = c.args in
    let d = c.decide_joint.ensures in
    let j = c.joint_of in
    (d.0 ∙ sym (old_joint _ a.new a.old c.if-new-old.false (common_same a.new a.old _ _ c.is_common.ensures c.is_common-2.ensures c.if-is_common.false) c.if-old-new.false j.result j.ensures), d.1)
