-- `entry_questions::answered` meets its contract. Names or sections that are refused are the answer; else the arrays have the names, the sections and the places of their bytes, and the
-- symbols are asked with them. Assumes nothing.
use mathlib.Core.Path.{refl, sym, ap, ◌∙◌}
use mathlib.Core.List.{List}
use Prim.Native.Nat.{ℕ}
use lib.ListN.{length}
use Rattle.lists.proofs.Binds.{after-stops}
use Rattle.lists.proofs.Outcomes.{then_goes}
use Rattle.obj.specs.Answers.{meaning}
use Rattle.stage_tables.specs.StageTables.{image_check}
use Rattle.stage_sections.proofs.Laws.{sections_kept, place_same}
use Rattle.obj.proofs.Errors.{is_err}
use Rattle.entry_questions.specs.Entry.{answer_of}
use Rattle.entry_questions.proofs.Laws.{symbols_as}
use Rattle.entry_questions.proofs.answered.Goals as goal

pub returns-in_err-check : goal.returns-in_err-check
unfolding answer_of
returns-in_err-check c =
    rw (is_err _ c.from_residual.ensures.1) (sym (after-stops _ _ _ _ _ (sym c.in_err-check.ensures.said)))

pub returns-in_err-headed : goal.returns-in_err-headed
unfolding answer_of
returns-in_err-headed c =
    let t = c.args.lent.now in
    rw (is_err _ c.from_residual-in_err-headed.ensures.1)
    (sym (after-stops _ _ _ _ _ (sym (c.in_err-headed.ensures.said ∙ ap (λ (l : List ℕ). image_check 64 l t.section_places.now (length t.image.now) t.sections.now) c.names-names.ensures.lengths)))
    ∙ then_goes c.check.ensures.said _ (ap meaning c.in_ok-check.was))

pub with_symbols-requires : goal.with_symbols-requires
with_symbols-requires c =
    let t = c.args.lent.now in
    let names = c.names-names in
    let k = c.in_ok-headed.ensures in
    let h = k.tables in (
      names.ensures.readable,
      rw (h.heads.bytes, h.heads.places, h.image_bytes, h.image_places)
          (sections_kept names.result.lengths.now t.section_places.now t.image.now t.sections.now (sym k.said) _ names.ensures.readable.paired),
    )

pub returns : goal.returns
unfolding answer_of
returns c =
    let t = c.args.lent.now in
    let names = c.names-names.ensures in
    let k = c.in_ok-headed.ensures in
    let h = k.tables in
    (rw (h.heads.bytes, h.image_bytes) at c.with_symbols.ensures)
    ∙ symbols_as t.name_ends.now t.name_bytes.now t.sections.now t.image.now t.section_places.now t.symbols.now t.splits.now c.args.question
    _ _ _ _ _ names.bytes names.places names.lengths h.heads.places
    (λ n i. rw h.image_places (place_same c.names-names.result.lengths.now t.section_places.now t.image.now t.sections.now (sym k.said) n i))
    ∙ then_goes (k.said ∙ ap (λ (l : List ℕ). image_check 64 l t.section_places.now (length t.image.now) t.sections.now) names.lengths) _ refl
    ∙ then_goes c.check.ensures.said _ (ap meaning c.in_ok-check.was)
