-- `sections::default_alignment` meets its contract: the code's test is the definition's.
use mathlib.Core.Path.{sym, ap, ◌∙◌}
use mathlib.Core.Bool.{Bool, cond, ◌||◌}
use lib.Dec.{eqb}
use Rattle.sections.specs.Alignment.{default_alignment}
use Rattle.sections.proofs.default_alignment.Goals as goal

pub returns-then-head-is_four_aligned : goal.returns-then-head-is_four_aligned
unfolding default_alignment
returns-then-head-is_four_aligned c = sym (ap (λ (t : Bool). cond (eqb c.args.head.kind 0 || t) 4 8) (sym c.is_four_aligned.ensures) ∙ rw c.if-head-is_four_aligned.true)

pub returns : goal.returns
unfolding default_alignment
returns c = sym (ap (λ (t : Bool). cond (eqb c.args.head.kind 0 || t) 4 8) (sym c.is_four_aligned.ensures) ∙ rw c.if-head-is_four_aligned.false)
