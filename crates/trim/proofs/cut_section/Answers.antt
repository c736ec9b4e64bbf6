-- `trim::cut_section` meets its contract: 10, the rows as they are where the splitting end is the section's end, or its last row cut.
use borrow.Author.Rules.{rules}
use mathlib.Core.Path.{sym, ap, ◌∙◌}
use Prim.Native.Nat.{◌+◌}
use Rattle.lists.specs.Outcome.{accepted}
use Rattle.obj.specs.Answers.{meaning}
use Rattle.obj.proofs.Errors.{is_err}
use Rattle.obj.specs.declared.Section.{Section}
use Rattle.sections.specs.Image.{image_in}
use Rattle.sections.specs.Sections.{head_in}
use Rattle.sections.proofs.Kept.{kept-held}
use Rattle.trim.proofs.Answers.{end_else}
use Rattle.trim.proofs.Cut.{section_short, section_whole, section_cut}
use Rattle.trim.specs.Lent.{sections_in}
use Rattle.trim.proofs.cut_section.Goals as goal

pub record-head-requires : goal.record-head-requires
record-head-requires c = kept-held _ _ _ _ _ c.args.tables.now.kept c.args.k c.requires

pub returns-in_err-low-clause-rows : goal.returns-in_err-low-clause-rows
returns-in_err-low-clause-rows c =
    let a = c.args in
    let is = sym c.end_of-end.ensures ∙ end_else a.k (head_in a.tables.now.obj a.k).address c.end_of-end.result c.map_err.result c.map_err.ensures.cases (λ e d q. search rules) ∙ ap meaning c.in_err-low.was in
    rw (is_err _ c.from_residual.ensures.1)
    (sym (section_short (image_in a.tables.now.obj) (sections_in a.tables.now.obj a.tables.now.image) a.k _ _ _ _ is))

pub returns-then-end-from-clause-rows : goal.returns-then-end-from-clause-rows
returns-then-end-from-clause-rows c =
    let a = c.args in
    let whole = c.end.ensures ∙ ap (λ (h : Section). h.address + h.size) c.record-head.ensures in
    let is = sym c.end_of-end.ensures ∙ end_else a.k (head_in a.tables.now.obj a.k).address c.end_of-end.result c.map_err.result c.map_err.ensures.cases (λ e d q. search rules) ∙ ap meaning c.in_ok-low.was in
    ap accepted c.cut_last.ensures.rows ∙ sym (section_cut (image_in a.tables.now.obj) (sections_in a.tables.now.obj a.tables.now.image) a.k _ _ is (λ e. c.if-end-from.true (whole ∙ e ∙ sym c.from.ensures)))

pub returns-else-end-from-clause-rows : goal.returns-else-end-from-clause-rows
returns-else-end-from-clause-rows c =
    let a = c.args in
    let whole = c.end.ensures ∙ ap (λ (h : Section). h.address + h.size) c.record-head.ensures in
    let is = sym c.end_of-end.ensures ∙ end_else a.k (head_in a.tables.now.obj a.k).address c.end_of-end.result c.map_err.result c.map_err.ensures.cases (λ e d q. search rules) ∙ ap meaning c.in_ok-low.was in
    sym (section_whole (image_in a.tables.now.obj) (sections_in a.tables.now.obj a.tables.now.image) a.k _ _ is (sym whole ∙ c.if-end-from.false ∙ c.from.ensures))
