-- `trim::cut_sections` meets its contract: the first refusal ends it.
use mathlib.Core.Path.{sym, ap, ◌∙◌}
use Prim.Native.Nat.{ℕ, ◌+◌, ◌-◌}
use native.Mathlib.Nat.{sub-zero}
use lib.ListN.{length}
use Rattle.obj.proofs.Errors.{same_err}
use Rattle.sections.specs.Image.{image_in}
use Rattle.splits.specs.Table.{ends_rows}
use Rattle.trim.specs.Trim.{cut_from}
use Rattle.trim.proofs.Answers.{seen-stops, seen_goes}
use Rattle.trim.proofs.Cut.{cut_turn, cut_ended}
use Rattle.trim.specs.Lent.{sections_in}
use Rattle.splits.proofs.Lent.{ends_same, ends_still}
use Rattle.trim.proofs.cut_sections.Goals as goal

pub loop-k-init : goal.loop-k-init
loop-k-init c =
    let a = c.args in
    let g = image_in a.tables.now.obj in
    let sections = sections_in a.tables.now.obj a.tables.now.image in
    (ap (λ (m : ℕ). cut_from g sections m 0 (ends_rows a.table.now)) (sub-zero (length a.tables.now.obj.heads.places.now)), ends_same)

pub returns-in_err-cut_section-clause-rows : goal.returns-in_err-cut_section-clause-rows
returns-in_err-cut_section-clause-rows c =
    let a = c.args in
    let g = image_in a.tables.now.obj in
    let sections = sections_in a.tables.now.obj a.tables.now.image in
    let l = c.loop-k in
    rw (same_err c.from_residual.result c.cut_section.result c.from_residual.ensures.1 c.in_err-cut_section.was)
    (seen-stops _ _ _ _ c.cut_section.ensures.rows _ c.in_err-cut_section.was
    ∙ sym (cut_turn g sections (length a.tables.now.obj.heads.places.now) l.k (ends_rows l.table) c.loop-k-test.true)
    ∙ l.invariant.0)

pub returns-in_err-cut_section-clause-others : goal.returns-in_err-cut_section-clause-others
returns-in_err-cut_section-clause-others c = ends_still c.loop-k.invariant.1 c.cut_section.ensures.others

pub loop-k-preserved : goal.loop-k-preserved
loop-k-preserved c =
    let a = c.args in
    let g = image_in a.tables.now.obj in
    let sections = sections_in a.tables.now.obj a.tables.now.image in
    let l = c.loop-k in (
      sym (seen_goes _ _ _ (cut_from g sections (length a.tables.now.obj.heads.places.now - (l.k + 1)) (l.k + 1)) c.cut_section.ensures.rows c.in_ok-cut_section.was)
          ∙ sym (cut_turn g sections (length a.tables.now.obj.heads.places.now) l.k (ends_rows l.table) c.loop-k-test.true)
          ∙ l.invariant.0,
      ends_still l.invariant.1 c.cut_section.ensures.others,
    )

pub returns-clause-rows : goal.returns-clause-rows
returns-clause-rows c =
    let a = c.args in
    let g = image_in a.tables.now.obj in
    let sections = sections_in a.tables.now.obj a.tables.now.image in
    let l = c.loop-k in
    sym (cut_ended g sections (length a.tables.now.obj.heads.places.now) l.k (ends_rows l.table) c.loop-k-test.false) ∙ l.invariant.0
