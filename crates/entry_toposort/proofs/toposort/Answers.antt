-- `entry_toposort::toposort`: what was checked and sorted, and the outputs cleared after what is kept.
use mathlib.Core.Path.{sym, ap, ◌∙◌}
use lib.ListN.{length}
use Rattle.obj.specs.Answers.{word}
use Rattle.entry_toposort.proofs.Laws.{leaves, refused_leaves, ends_as}
use Rattle.entry_toposort.proofs.toposort.Goals as goal

pub returns-in-Err : goal.returns-in-Err
returns-in-Err c =
    rw c.word_of.ensures
    (refused_leaves _ _ _ _ _ _ _ _ (c.in-Err.ensures (length c.args.out.now)) c.leave.ensures.0 c.leave.ensures.1)

pub returns : goal.returns
returns c =
    leaves _ c.sort_table-sorted.result _ _ _ c.args.counts.now _ _ _
    (ends_as (sym (c.in_default.ensures.sorted (length c.args.out.now))) c.sort_table-sorted.ensures)
    c.kept.ensures
    (c.word_of-2.ensures ∙ ap word c.answer_of.ensures)
    c.leave-2.ensures.0 c.leave-2.ensures.1
