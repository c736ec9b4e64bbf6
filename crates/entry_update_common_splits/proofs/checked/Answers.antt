-- `entry_update_common_splits::checked` meets its contract. Names that are refused are the answer; else the arrays hold them, and the other tables are asked with them.
-- Assumes nothing.
use mathlib.Core.Path.{sym, ap, ◌∙◌}
use lib.ListN.{length}
use Rattle.std.specs.Prelude.{is_some, unwrap_or}
use Rattle.obj.specs.Answers.{meaning}
use Rattle.obj.proofs.Errors.{same_err}
use Rattle.stage_splits.proofs.Laws.{gives_as, gives_stops, gives_goes}
use Rattle.entry_update_common_splits.proofs.Laws.{update_is, names_as}
use Rattle.entry_update_common_splits.proofs.checked.Goals as goal

pub returns-in_err-check-clause-gives : goal.returns-in_err-check-clause-gives
returns-in_err-check-clause-gives c =
    let a = c.args in
    rw (same_err c.from_residual.result c.check.result c.from_residual.ensures.1 c.in_err-check.was)
    (gives_as (sym (update_is a.lent.now.name_ends.now a.lent.now.name_bytes.now a.lent.now.sections.now a.lent.now.splits.now a.given (length a.output.now.splits.now))) (gives_stops _ c.check.ensures.said (ap meaning c.in_err-check.was)))

pub names-requires : goal.names-requires
names-requires c = let s = c.check.ensures in s.stored (sym s.said ∙ ap meaning c.in_ok-check.was)

pub returns-clause-gives : goal.returns-clause-gives
returns-clause-gives c =
    let s = c.check.ensures in
    let told = sym s.said ∙ ap meaning c.in_ok-check.was in
    let a = c.args in
    let n = c.names.ensures in
    let size = length a.output.now.splits.now in
    gives_as (sym (update_is a.lent.now.name_ends.now a.lent.now.name_bytes.now a.lent.now.sections.now a.lent.now.splits.now a.given size))
    (gives_goes told
    (gives_as (names_as a.lent.now.sections.now a.lent.now.splits.now (is_some a.given) (unwrap_or a.given 0) size (s.stored told))
    (rw (n.bytes, n.places, n.lengths) at c.from_sections.ensures.gives)))
