-- `obj::origin_of` meets its contract: the code's test is the definition's.
use borrow.Author.Tests.{eq-eqb, ne_eqb}
use Rattle.obj.specs.Records.{origin_of}
use Rattle.obj.proofs.origin_of.Goals as goal

pub returns-then-flags-eq1 : goal.returns-then-flags-eq1
unfolding origin_of
returns-then-flags-eq1 c = rw (eq-eqb _ _ c.if-flags-eq1.true)

pub returns : goal.returns
unfolding origin_of
returns c = rw (ne_eqb _ _ c.if-flags-eq1.false)
