-- `validate::validate_one` meets its contract: each rule's test in the definition's order; the first that holds refuses.
use mathlib.Core.Path.{sym, ap, ◌∙◌}
use Rattle.lists.proofs.Outcomes.{fails, passes}
use Rattle.obj.specs.Answers.{meaning}
use Rattle.validate.specs.Check.{validate_one}
use Rattle.validate.proofs.validate_one.Goals as goal

pub returns-then-s-before : goal.returns-then-s-before
unfolding validate_one
returns-then-s-before c = ap meaning c.refuse.ensures ∙ sym (fails 50 _ _ _ _ c.if-s-before.true)

pub returns-then-s : goal.returns-then-s
unfolding validate_one
returns-then-s c = ap meaning c.refuse-then-s.ensures ∙ sym (passes 50 _ _ _ _ c.if-s-before.false ∙ fails 51 _ _ _ _ c.if-s.true)

pub returns-then-is_inside : goal.returns-then-is_inside
unfolding validate_one
returns-then-is_inside c =
    ap meaning c.refuse-then-is_inside.ensures
    ∙ sym (passes 50 _ _ _ _ c.if-s-before.false
    ∙ passes 51 _ _ _ _ c.if-s.false
    ∙ fails 52 _ _ _ _ (sym c.is_inside.ensures ∙ c.if-is_inside.true))

pub returns-then-is_inside-2 : goal.returns-then-is_inside-2
unfolding validate_one
returns-then-is_inside-2 c =
    ap meaning c.refuse-then-is_inside-2.ensures
    ∙ sym (passes 50 _ _ _ _ c.if-s-before.false
    ∙ passes 51 _ _ _ _ c.if-s.false
    ∙ passes 52 _ _ _ _ (sym c.is_inside.ensures ∙ c.if-is_inside.false)
    ∙ fails 53 _ _ _ _ (sym c.is_inside-2.ensures ∙ c.if-is_inside-2.true))

pub returns : goal.returns
unfolding validate_one
returns c =
    sym (passes 50 _ _ _ _ c.if-s-before.false
    ∙ passes 51 _ _ _ _ c.if-s.false
    ∙ passes 52 _ _ _ _ (sym c.is_inside.ensures ∙ c.if-is_inside.false)
    ∙ passes 53 _ _ _ _ (sym c.is_inside-2.ensures ∙ c.if-is_inside-2.false))
