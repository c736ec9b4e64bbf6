-- `trim::find_falls` meets its contract: each fall is stored in its place, and the first refusal ends it.
use borrow.Author.Rules.{rules}
use mathlib.Core.Path.{◌≡◌, sym, ap, ◌∙◌}
use Prim.Native.Nat.{ℕ}
use native.Mathlib.Omega.{arith}
use lib.ListN.{take}
use Rattle.lists.specs.Outcome.{accepted}
use Rattle.obj.specs.Answers.{meaning}
use Rattle.obj.proofs.Errors.{is_err}
use Rattle.obj.specs.declared.Split.{Split}
use Rattle.align.specs.Align.{bad_align}
use Rattle.sections.specs.Image.{image_in}
use Rattle.splits.specs.Columns.{row_at}
use Rattle.splits.specs.Table.{columns_of}
use Rattle.trim.proofs.Answers.{asked_else}
use Rattle.trim.proofs.Falls.{falls_start, fall_turn, fall_stops, falls_ended}
use Rattle.splits.proofs.Rows.{good_row}
use Rattle.splits.proofs.Alignment.{alignment_good}
use Rattle.sections.specs.Sections.{head_in}
use Rattle.trim.proofs.find_falls.Goals as goal

pub loop-i-init : goal.loop-i-init
loop-i-init c =
    let a = c.args in
    let g = image_in a.tables.now.obj in
    let head = head_in a.tables.now.obj in
    let row = row_at (columns_of a.splits.now) in
    falls_start g head row a.splits.now.count

pub fall_of-fall-requires : goal.fall_of-fall-requires
fall_of-fall-requires c =
    let e = c.row-s.ensures in
    let p = c.requires.0.each c.loop-i.i c.loop-i-test.true in (
      record { section = omega (arith, ap (λ (y : Split). y.section) e, p.section); end = omega (arith, ap (λ (y : Split). y.end) e, p.end) },
      ap (λ (y : Split). bad_align y.alignment) e ∙ alignment_good _ (good_row _ _ _ _),
    )

pub loop-i-preserved : goal.loop-i-preserved
loop-i-preserved c =
    let a = c.args in
    let g = image_in a.tables.now.obj in
    let head = head_in a.tables.now.obj in
    let row = row_at (columns_of a.splits.now) in
    let l = c.loop-i in
    let y = c.row-s.result in
    let fall = sym c.fall_of-fall.ensures ∙ asked_else c.row-s.result.section c.row-s.result.start c.fall_of-fall.result c.map_err.result c.map_err.ensures.cases (λ e d q. search rules) ∙ ap meaning c.in_ok-falls.was in
    fall_turn g head row a.splits.now.count l.i c.loop-i-test.true y c.row-s.ensures l.falls _ (omega (arith, c.requires.1, l.auto.falls, c.loop-i-test.true)) fall ∙ l.invariant

pub returns-in_err-falls : goal.returns-in_err-falls
returns-in_err-falls c =
    let a = c.args in
    let g = image_in a.tables.now.obj in
    let head = head_in a.tables.now.obj in
    let row = row_at (columns_of a.splits.now) in
    let l = c.loop-i in
    let fall = sym c.fall_of-fall.ensures ∙ asked_else c.row-s.result.section c.row-s.result.start c.fall_of-fall.result c.map_err.result c.map_err.ensures.cases (λ e d q. search rules) ∙ ap meaning c.in_err-falls.was in
    rw (is_err _ c.from_residual.ensures.1)
    (sym (fall_stops g head row a.splits.now.count l.i c.loop-i-test.true c.row-s.result c.row-s.ensures (take l.i l.falls) _ _ _ fall) ∙ l.invariant)

pub returns : goal.returns
returns c =
    let a = c.args in
    let g = image_in a.tables.now.obj in
    let head = head_in a.tables.now.obj in
    let row = row_at (columns_of a.splits.now) in
    let l = c.loop-i in
    let z : ◌≡◌ a.splits.now.count l.i = omega (arith, l.auto.i-end, c.loop-i-test.false) in
    ap (λ (m : ℕ). accepted (take m l.falls)) z
    ∙ sym (falls_ended g head row a.splits.now.count l.i (take l.i l.falls) c.loop-i-test.false)
    ∙ l.invariant
