-- After the tables and the mending, the outputs stay or are cleared; they are still those that were lent.
use mathlib.Core.Path.{sym, ◌∙◌}
use Rattle.mend_outputs.proofs.Laws.{leaves}
use Rattle.entry_mend_splits.proofs.mend_splits.Goals as goal

pub returns : goal.returns
returns c =
    let k = c.checked-a.ensures.lent in
    let f = c.finish.ensures.lent in
    let s = c.out_splits-1.given.1.1 (sym (f.splits ∙ k.splits)) in
    let l = c.lines-1.given.1.1 (sym (f.lines ∙ k.lines)) in
    let n = c.counts-1.given.1.1 (sym (f.counts ∙ k.counts)) in
    rw (s, l, n) (leaves _ _ k.size k.lines_size k.counts_size c.checked-a.ensures.gives c.finish.ensures.finishes)
