-- Names that do not fit, or are refused, are the answer; else the arrays have their places and lengths, what is left of the ceilings is free, and the sections
-- are asked with them.
use Rattle.std.proofs.Common.{ℕ, sym, ap, ◌∙◌, arith, length}
use mathlib.Core.Path.{ap₂}
use Rattle.obj.specs.Answers.{meaning}
use Rattle.obj.proofs.Errors.{same_err}
use Rattle.stage_names.specs.StageNames.{fit_check}
use Rattle.entry_create_gap_splits.specs.Entry.{gap_splits_of}
use Rattle.stage_gaps.proofs.Laws.{gives_as, gives_stops, gives_goes}
use Rattle.entry_create_gap_splits.proofs.Passed.{names_room_lem, fit_few, fit_end, names-taken, space, names_as}
use Rattle.entry_create_gap_splits.proofs.checked.Goals as goal

pub fit_names-requires : goal.fit_names-requires
fit_names-requires c = omega (arith, c.names_room.ensures, (names_room_lem (length c.args.outputs.now.ends.now)).0)

pub returns-in_err-fit_names-clause-gives : goal.returns-in_err-fit_names-clause-gives
unfolding gap_splits_of
returns-in_err-fit_names-clause-gives c =
    rw (same_err c.from_residual.result c.fit_names.result c.from_residual.ensures.1 c.in_err-fit_names.was)
    (gives_stops _ (c.fit_names.ensures ∙ ap₂ (λ (m b : ℕ). fit_check m b c.args.lent.now.name_ends.now) c.names_room.ensures c.bytes_room.ensures) (ap meaning c.in_err-fit_names.was))

pub returns-in_err-check-clause-gives : goal.returns-in_err-check-clause-gives
unfolding gap_splits_of
returns-in_err-check-clause-gives c =
    rw (same_err c.from_residual-in_err-check.result c.check.result c.from_residual-in_err-check.ensures.1 c.in_err-check.was)
    (gives_goes
    (ap₂ (λ (m b : ℕ). fit_check m b c.args.lent.now.name_ends.now) (sym c.names_room.ensures) (sym c.bytes_room.ensures) ∙ sym c.fit_names.ensures ∙ ap meaning c.in_ok-fit_names.was)
    (gives_stops _ c.check.ensures.said (ap meaning c.in_err-check.was)))

pub overflow_sub-most : goal.overflow_sub-most
overflow_sub-most c = fit_few _ _ _ (sym c.fit_names.ensures ∙ ap meaning c.in_ok-fit_names.was)

pub overflow_sub-most-2 : goal.overflow_sub-most-2
overflow_sub-most-2 c = omega (arith, c.start_of-end.ensures.is, fit_end _ _ _ (sym c.fit_names.ensures ∙ ap meaning c.in_ok-fit_names.was))

pub names-requires : goal.names-requires
names-requires c = let s = c.check.ensures in s.stored (sym s.said ∙ ap meaning c.in_ok-check.was)

pub from_sections-requires : goal.from_sections-requires
from_sections-requires c =
    let a = c.args in
    let n = c.names.ensures in
    let fit = sym c.fit_names.ensures ∙ ap meaning c.in_ok-fit_names.was in
    let passed = sym c.check.ensures.said ∙ ap meaning c.in_ok-check.was in
    let stored = c.check.ensures.stored passed in (
      names-taken _ _ stored n.bytes n.places n.lengths c.index.ensures.0 c.index.ensures.1 n.readable,
      space _ _ stored n.bytes n.places n.lengths (length a.outputs.now.ends.now) (length a.outputs.now.bytes.now) _ _ _ c.names_room.ensures c.bytes_room.ensures c.start_of-end.ensures.is fit passed,
    )

pub returns-clause-gives : goal.returns-clause-gives
unfolding gap_splits_of
returns-clause-gives c =
    let a = c.args in
    let n = c.names.ensures in
    let fit = sym c.fit_names.ensures ∙ ap meaning c.in_ok-fit_names.was in
    let passed = sym c.check.ensures.said ∙ ap meaning c.in_ok-check.was in
    let stored = c.check.ensures.stored passed in
    gives_goes
    (ap₂ (λ (m b : ℕ). fit_check m b a.lent.now.name_ends.now) (sym c.names_room.ensures) (sym c.bytes_room.ensures) ∙ fit)
    (gives_goes passed
    (gives_as
    (names_as _ _ stored n.bytes n.places n.lengths (length a.outputs.now.ends.now) (length a.outputs.now.bytes.now) _ _ _ c.names_room.ensures c.bytes_room.ensures c.start_of-end.ensures.is fit passed
    a.lent.now.sections.now a.lent.now.section_places.now a.lent.now.image.now a.lent.now.symbols.now a.lent.now.splits.now (length a.outputs.now.splits.now))
    c.from_sections.ensures.gives))
