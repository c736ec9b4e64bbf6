-- `entry_trim_splits::checked` meets its contract. Names that are refused are the answer; else the arrays hold them, and the other tables are asked with them.
-- Assumes nothing.
use mathlib.Core.Path.{sym, ap, ◌∙◌}
use lib.ListN.{length}
use Rattle.obj.specs.Answers.{meaning}
use Rattle.obj.proofs.Errors.{same_err}
use Rattle.stage_splits.proofs.Laws.{gives_as, gives_stops, gives_goes}
use Rattle.entry_trim_splits.specs.Entry.{trim_of}
use Rattle.entry_trim_splits.proofs.Laws.{names_as}
use Rattle.entry_trim_splits.proofs.checked.Goals as goal

pub returns-in_err-check-clause-gives : goal.returns-in_err-check-clause-gives
unfolding trim_of
returns-in_err-check-clause-gives c =
    rw (same_err c.from_residual.result c.check.result c.from_residual.ensures.1 c.in_err-check.was) (gives_stops _ c.check.ensures.said (ap meaning c.in_err-check.was))

pub names-requires : goal.names-requires
names-requires c = let s = c.check.ensures in s.stored (sym s.said ∙ ap meaning c.in_ok-check.was)

pub returns-clause-gives : goal.returns-clause-gives
unfolding trim_of
returns-clause-gives c =
    let a = c.args.lent.now in
    let n = c.names.ensures in
    gives_goes (sym c.check.ensures.said ∙ ap meaning c.in_ok-check.was)
    (gives_as (names_as _ _ a.sections.now a.section_places.now a.image.now a.symbols.now a.splits.now (length c.args.output.now.splits.now))
    (rw (n.bytes, n.places, n.lengths) at c.from_sections.ensures.gives))
