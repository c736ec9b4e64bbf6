-- What the tables and the merge gave, with the outputs as they are then left; they are still those that were lent.
use mathlib.Core.Path.{sym, ◌∙◌}
use Rattle.stage_splits.proofs.Laws.{finished}
use Rattle.entry_add_splits.proofs.add_splits.Goals as goal

pub returns : goal.returns
returns c =
    let k = c.checked-a.ensures.lent in
    let f = c.finish.ensures.lent in
    let s = c.out_splits-1.given.1.1 (sym (f.splits ∙ k.splits)) in
    let n = c.counts-1.given.1.1 (sym (f.counts ∙ k.counts)) in
    rw (s, n) (finished _ _ _ k.size k.counts_size c.checked-a.ensures.gives c.finish.ensures.left)
