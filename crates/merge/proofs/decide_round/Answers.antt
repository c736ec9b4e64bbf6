-- `merge::decide_round` meets its contract: 20 and 21, and then the splits of the unit have the rest.
-- Assumes nothing.
use mathlib.Core.Path.{sym, ◌∙◌}
use Rattle.obj.proofs.Errors.{is_err}
use Rattle.splits.specs.Table.{rows_of}
use Rattle.merge.proofs.Decisions.{answers}
use Rattle.merge.proofs.decide_round.Goals as goal

pub returns-in_err-check_place : goal.returns-in_err-check_place
returns-in_err-check_place c =
    let begins = c.check_place.ensures c.args.room (rows_of c.args.splits.now) in
    answers _ (is_err _ c.from_residual.ensures.1) (rw c.in_err-check_place.was at begins)

pub returns : goal.returns
returns c =
    let begins = c.check_place.ensures c.args.room (rows_of c.args.splits.now) in
    let d = c.decide_own.ensures in
    (d.0 ∙ sym (rw c.in_ok-check_place.was at begins), d.1)
