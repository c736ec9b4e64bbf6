-- A refused merge is handed on, else the marked rows are those of the stage.
use Rattle.std.proofs.Common.{◌∙◌, sym, ap}
use Rattle.obj.proofs.Errors.{is_err}
use Rattle.lists.specs.Rows.{tabulate}
use Rattle.obj.specs.Answers.{Answer}
use Rattle.splits.specs.Table.{rows_in}
use Rattle.merge.specs.Answers.{merged}
use Rattle.run_merge.proofs.Laws.{common_left, marked_refused, marked_left}
use Rattle.run_merge.proofs.merge_partials.Goals as goal

pub returns-in_err-add_splits-clause-rows : goal.returns-in_err-add_splits-clause-rows
unfolding tabulate
returns-in_err-add_splits-clause-rows c =
    let m = c.add_splits in
    let said = sym (rw c.heads-heads.ensures at m.ensures.rows) ∙ ap (λ (r : Answer). merged r (rows_in m.new.table)) c.in_err-add_splits.was in
    rw (is_err _ c.from_residual.ensures.1) (marked_refused _ said)

pub returns-clause-rows : goal.returns-clause-rows
unfolding tabulate
returns-clause-rows c =
    let m = c.add_splits in
    let said = sym (rw c.heads-heads.ensures at m.ensures.rows) ∙ ap (λ (r : Answer). merged r (rows_in m.new.table)) c.in_ok-add_splits.was in
    let u = c.update_common_splits in
    let marked = rw (c.names.ensures, c.heads-heads.ensures) at u.ensures.rows in
    let o = u.ensures.others in
    let written = c.rest-2-1.given.1.1 (sym o.rest.name) in
    rw written (marked_left _ said (common_left u.result _ _ _ (rw (o.starts, o.ends, o.units, o.count) at marked)))
