-- After a refusal both outputs are cleared, else they are as they were given.
use Rattle.stage_splits.proofs.Laws.{leaves_cleared}
use Rattle.stage_splits.proofs.finish.Goals as goal

pub returns-clause-left : goal.returns-clause-left
returns-clause-left c =
    let a = c.args in
    λ o. leaves_cleared a.a o a.output.now.splits.now a.output.now.counts.now c.word_of.ensures c.clear_refused.ensures c.clear_refused-2.ensures
