-- After the tables and the stage, the outputs stay or are cleared; they are still those that were lent.
use mathlib.Core.Path.{sym, ap, ◌∙◌}
use Rattle.std.specs.Prelude.{ℕ, Option, length}
use Rattle.stage_splits.proofs.Laws.{finished, gives_as}
use Rattle.entry_update_common_splits.specs.Lent.{update_with}
use Rattle.entry_update_common_splits.proofs.Laws.{start_as}
use Rattle.entry_update_common_splits.proofs.update_common_splits.Goals as goal

pub returns : goal.returns
returns c =
    let a = c.args in
    let size = length a.out.now in
    let k = c.checked-a.ensures.lent in
    let f = c.finish.ensures.lent in
    let s = c.out-1.given.1.1 (sym (f.splits ∙ k.splits)) in
    let n = c.counts-1.given.1.1 (sym (f.counts ∙ k.counts)) in
    let start = ap (λ (given : Option ℕ). update_with a.name_ends.now a.name_bytes.now a.sections.now a.splits.now given size) c.then_some-given.ensures
    ∙ start_as a.name_ends.now a.name_bytes.now a.sections.now a.splits.now a.has_start a.start size in
    rw (s, n) (finished _ _ _ k.size k.counts_size (gives_as start c.checked-a.ensures.gives) c.finish.ensures.left)
