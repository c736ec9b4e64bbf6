-- `mend::decide` meets its contract: there is a new end where the own one is wrong. Assumes nothing.
use mathlib.Core.Path.{◌∙◌}
use Rattle.std.proofs.Common.{rules}
use Rattle.mend.proofs.Steps.{decides, then_is}
use Rattle.mend.proofs.decide.Goals as goal

pub returns : goal.returns
returns c =
    then_is _ _ _ c.then.ensures.variant (search (rules, c.then.ensures.some)) ∙ decides _ _ _ _ _ _ c.row-split.ensures c.next_of-next.ensures c.wrong_end.ensures
