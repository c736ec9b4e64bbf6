use Rattle.std.proofs.Common.{sym, ◌∙◌}
use Rattle.align.specs.Align.{good_align}
use Rattle.align.proofs.good.Goals as goal

pub returns-then-is_power_of_two : goal.returns-then-is_power_of_two
unfolding good_align
returns-then-is_power_of_two c = rw (sym c.is_power_of_two.ensures ∙ c.if-is_power_of_two.true)

pub returns-else-is_power_of_two : goal.returns-else-is_power_of_two
unfolding good_align
returns-else-is_power_of_two c = rw (sym c.is_power_of_two.ensures ∙ c.if-is_power_of_two.false) c.if-is_power_of_two.false
