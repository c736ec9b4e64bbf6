-- Each refusal is the definition's, in its order.
use Rattle.std.proofs.Common.{ap, ◌∙◌}
use Rattle.lists.specs.Outcome.{refused}
use Rattle.obj.specs.Answers.{meaning}
use Rattle.tables.proofs.Loops.{size_cut, size_over, size_good}
use Rattle.tables.proofs.table_size.Goals as goal

pub returns-then-size-width-ne0 : goal.returns-then-size-width-ne0
returns-then-size-width-ne0 c = ap meaning c.refuse.ensures ∙ ap (refused 1 0) c.place_of.ensures ∙ size_cut _ _ _ c.if-size-width-ne0.true

pub returns-then-ceiling-n : goal.returns-then-ceiling-n
returns-then-ceiling-n c = ap meaning c.refuse-then-ceiling-n.ensures ∙ size_over _ _ _ c.if-size-width-ne0.false c.if-ceiling-n.true

pub returns : goal.returns
returns c = size_good _ _ _ c.if-size-width-ne0.false c.if-ceiling-n.false
