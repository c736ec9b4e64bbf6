-- `common::marked_split` meets its contract: the test is the definition's, and the flag is set as it says. Assumes nothing.
use mathlib.Core.Path.{refl}
use Rattle.common.specs.Common.{marked}
use Rattle.common.proofs.marked_split.Goals as goal

pub returns-then-s-from : goal.returns-then-s-from
unfolding marked
returns-then-s-from c = rw c.if-s-from.true refl

pub returns : goal.returns
unfolding marked
returns c = rw c.if-s-from.false refl
