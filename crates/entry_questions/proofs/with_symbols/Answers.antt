-- `entry_questions::with_symbols` meets its contract. A table that is refused is the answer; one that passed is passed over, and the front of its column has the places of its records; then
-- each question is asked by its own function, over the columns. Assumes nothing.
use mathlib.Core.Path.{refl, sym, ◌∙◌}
use native.Mathlib.Omega.{arith}
use lib.ListN.{length, length-map}
use Rattle.lists.proofs.Binds.{after-stops}
use Rattle.lists.proofs.Outcomes.{then_goes}
use Rattle.obj.specs.Records.{section_at}
use Rattle.tables.specs.Records.{sections_in}
use Rattle.sections.specs.Sections.{sections_of}
use Rattle.sections.proofs.Kept.{kept_heads}
use Rattle.stage_sections.proofs.Laws.{symbols_asked}
use Rattle.obj.proofs.Errors.{is_err}
use Rattle.entry_questions.specs.Entry.{question_of}
use Rattle.entry_questions.specs.Lines.{from_symbols}
use Rattle.entry_questions.proofs.Laws.{asked_as}
use Rattle.entry_questions.proofs.Passed.{homes_taken}
use Rattle.entry_questions.proofs.with_symbols.Goals as goal

pub returns-in_err-obj : goal.returns-in_err-obj
unfolding from_symbols
returns-in_err-obj c =
    rw (is_err _ c.from_residual.ensures.1) (sym (after-stops _ _ _ _ _ (sym c.in_err-obj.ensures.said)))

pub returns-in_err-splits : goal.returns-in_err-splits
unfolding from_symbols
returns-in_err-splits c =
    rw (is_err _ c.from_residual-in_err-splits.ensures.1) (sym (after-stops _ _ _ _ _ (sym c.in_err-splits.ensures.said)) ∙ then_goes c.in_ok-obj.ensures.said _ refl)

pub splitting_end-requires : goal.splitting_end-requires
splitting_end-requires c =
    let a = c.args in
    let k = c.in_ok-obj.ensures in
    let o = k.asked in (
      rw (o.names, o.symbols.bytes, o.symbols.places, o.order)
          (symbols_asked (length a.names.now.lengths.now) (sections_in a.heads.now.bytes.now a.heads.now.places.now) a.lent.now.symbols.now (sym k.said) _ _ _ (sym c.requires.0.paired) c.requires.0.named),
      rw (o.names, o.heads) c.requires.1,
    )

pub alignment-requires : goal.alignment-requires
alignment-requires c =
    let a = c.args in
    let k = c.in_ok-obj.ensures in
    let o = k.asked in
    let s = c.in_ok-splits.ensures in (
      rw (o.names, o.symbols.bytes, o.symbols.places, o.order)
          (symbols_asked (length a.names.now.lengths.now) (sections_in a.heads.now.bytes.now a.heads.now.places.now) a.lent.now.symbols.now (sym k.said) _ _ _ (sym c.requires.0.paired) c.requires.0.named),
      rw (o.names, o.heads) (kept_heads _ _ _ _ _ c.requires.1),
      rw (o.heads, s.table.bytes) (homes_taken 1024 _ _ a.lent.now.splits.now (sym s.said) (omega arith) s.table.places (length-map a.heads.now.places.now (section_at a.heads.now.bytes.now))),
    )

pub returns-in-End : goal.returns-in-End
unfolding question_of
returns-in-End c =
    let a = c.args in
    let k = c.in_ok-obj.ensures in
    let o = k.asked in
    let s = c.in_ok-splits.ensures in
    (rw (o.names, o.heads, o.symbols.bytes) at c.splitting_end.ensures)
    ∙ asked_as (sections_in a.heads.now.bytes.now a.heads.now.places.now) (sections_of a.heads.now.bytes.now a.heads.now.places.now a.image.now.bytes.now a.image.now.places.now) a.lent.now.symbols.now
    a.lent.now.splits.now a.names.now.bytes.now a.names.now.places.now a.names.now.lengths.now _ _ a.question (sym k.said) (sym s.said) o.symbols.places s.table.places c.in-End.is

pub returns-in-Alignment : goal.returns-in-Alignment
unfolding question_of
returns-in-Alignment c =
    let a = c.args in
    let k = c.in_ok-obj.ensures in
    let o = k.asked in
    let s = c.in_ok-splits.ensures in
    (rw (o.names, o.heads, o.symbols.bytes, s.table.bytes) at c.alignment.ensures)
    ∙ asked_as (sections_in a.heads.now.bytes.now a.heads.now.places.now) (sections_of a.heads.now.bytes.now a.heads.now.places.now a.image.now.bytes.now a.image.now.places.now) a.lent.now.symbols.now
    a.lent.now.splits.now a.names.now.bytes.now a.names.now.places.now a.names.now.lengths.now _ _ a.question (sym k.said) (sym s.said) o.symbols.places s.table.places c.in-Alignment.is
