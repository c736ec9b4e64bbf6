use Rattle.std.proofs.Common.{ne_eqb, ap}
use mathlib.Core.Bool.{not}
use Rattle.align.specs.Align.{bad_align}
use Rattle.align.proofs.bad.Goals as goal

pub returns-then-a-ne0 : goal.returns-then-a-ne0
unfolding bad_align
returns-then-a-ne0 c = rw (ne_eqb _ 0 c.if-a-ne0.true) (ap not c.good.ensures)

pub returns-else-a-ne0 : goal.returns-else-a-ne0
unfolding bad_align
returns-else-a-ne0 c = rw (c.if-a-ne0.false)
