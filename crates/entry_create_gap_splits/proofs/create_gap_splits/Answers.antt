-- What was checked and filled is what the definition gives, and `finish` leaves it in the outputs, which are still those that were lent.
use Rattle.std.proofs.Common.{◌∙◌, sym, rules}
use Rattle.entry_create_gap_splits.proofs.Laws.{leaves_at}
use Rattle.entry_create_gap_splits.proofs.create_gap_splits.Goals as goal

pub returns : goal.returns
returns c =
    let k = c.checked-a.ensures.lent in
    let f = c.finish.ensures.lent in
    leaves_at _ k.ends_size k.bytes_size k.size k.counts_size c.checked-a.ensures.gives c.finish.ensures.leaves
    (search (rules, sym (f.ends ∙ k.ends)))
    (search (rules, sym (f.bytes ∙ k.bytes)))
    (search (rules, sym (f.splits ∙ k.splits)))
    (search (rules, sym (f.counts ∙ k.counts)))
