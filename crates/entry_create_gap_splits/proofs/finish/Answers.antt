-- After a refusal all outputs are cleared, else they are as they were given.
use Rattle.entry_create_gap_splits.proofs.Laws.{leaves_ended}
use Rattle.entry_create_gap_splits.proofs.finish.Goals as goal

pub returns-clause-leaves : goal.returns-clause-leaves
returns-clause-leaves c =
    let a = c.args in
    let b = a.outputs.now in
    λ o. leaves_ended o b.ends.now b.bytes.now b.splits.now b.counts.now a.a c.word_of.ensures c.clear_refused.ensures c.clear_refused-2.ensures c.clear_refused-3.ensures c.clear_refused-4.ensures
