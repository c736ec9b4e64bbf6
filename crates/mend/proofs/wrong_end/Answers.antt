-- `mend::wrong_end` meets its contract: the tests of each case, as the definition has them. Assumes nothing.
use borrow.Author.Rules.{rules}
use Rattle.mend.proofs.Steps.{any_wrong}
use Rattle.mend.proofs.wrong_end.Goals as goal

pub returns : goal.returns
returns c = let a = c.args in any_wrong a.start a.end a.next c.is_some_and.result c.is_some_and.ensures (λ at q. search rules)
