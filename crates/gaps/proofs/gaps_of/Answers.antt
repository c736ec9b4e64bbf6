-- 10, or the gaps up to the splitting end, with the section's default alignment.
use mathlib.Core.Path.{◌≡◌, refl, sym, ap, ap₂, ◌∙◌}
use Rattle.std.proofs.Common.{rules}
use Rattle.obj.specs.Answers.{meaning}
use Rattle.obj.proofs.Errors.{is_err}
use Rattle.sections.proofs.Refused.{refused_else}
use Prim.Native.Nat.{ℕ}
use native.Mathlib.Omega.{arith}
use Rattle.lists.specs.Rows.{keep_if}
use Rattle.lists.specs.Outcome.{accepted}
use Rattle.align.specs.Align.{good_align}
use Rattle.sections.specs.Image.{image_in}
use Rattle.sections.specs.Sections.{sections_of}
use Rattle.sections.specs.Ends.{splitting_end, end_meaning}
use Rattle.sections.proofs.Good.{default_good}
use Rattle.sections.proofs.Kept.{end_within}
use Rattle.splits.specs.Table.{rows_of}
use Rattle.gap_columns.specs.Table.{found_in}
use Rattle.gaps.specs.Gaps.{gaps_from, below, into}
use Rattle.gaps.proofs.Sections.{section_short, section_on}
use Rattle.gaps.proofs.gaps_of.Goals as goal

pub returns-in_err-end-clause-gaps : goal.returns-in_err-end-clause-gaps
returns-in_err-end-clause-gaps c =
    let a = c.args in
    let g = image_in a.obj.now in
    let s = sections_of a.obj.now.heads.bytes.now a.obj.now.heads.places.now a.image.now.bytes.now a.image.now.places.now in
    let is = sym (refused_else (end_meaning a.k (s.head a.k).address) c.end_of.result c.map_err.result c.map_err.ensures.cases (λ e d q. search (rules, c.record-start.ensures)) (λ x. refl) (λ e. refl) ∙ ap meaning c.in_err-end.was) ∙ c.end_of.ensures in
    rw (is_err _ c.from_residual.ensures.1) (section_short g s a.k (rows_of a.splits.now) (found_in a.found.now) _ _ _ is)

pub invariant_of-here : goal.invariant_of-here
invariant_of-here c =
    let p = c.requires in
    record { ordered = p.2.symbols; sound = p.3; good = ap good_align c.default_of-least.ensures ∙ default_good _ _ }

pub section_gaps-requires : goal.section_gaps-requires
section_gaps-requires c =
    let a = c.args in
    let g = image_in a.obj.now in
    let s = sections_of a.obj.now.heads.bytes.now a.obj.now.heads.places.now a.image.now.bytes.now a.image.now.places.now in
    let p = c.requires in
    let end = c.in_ok-end.end in
    let is : accepted end ≡ splitting_end g a.k (s.head a.k) (s.bytes a.k) =
    sym (refused_else (end_meaning a.k (s.head a.k).address) c.end_of.result c.map_err.result c.map_err.ensures.cases (λ e d q. search (rules, c.record-start.ensures)) (λ x. refl) (λ e. refl) ∙ ap meaning c.in_ok-end.was) ∙ c.end_of.ensures in
    (rw c.record-start.ensures (p.5 end), omega (arith, end_within g a.k (s.head a.k) (s.bytes a.k) end (sym is), p.1.below a.k p.4))

pub returns-clause-gaps : goal.returns-clause-gaps
returns-clause-gaps c =
    let a = c.args in
    let g = image_in a.obj.now in
    let s = sections_of a.obj.now.heads.bytes.now a.obj.now.heads.places.now a.image.now.bytes.now a.image.now.places.now in
    let l = rows_of a.splits.now in
    let before = found_in a.found.now in
    let end = c.in_ok-end.end in
    let is : accepted end ≡ splitting_end g a.k (s.head a.k) (s.bytes a.k) =
    sym (refused_else (end_meaning a.k (s.head a.k).address) c.end_of.result c.map_err.result c.map_err.ensures.cases (λ e d q. search (rules, c.record-start.ensures)) (λ x. refl) (λ e. refl) ∙ ap meaning c.in_ok-end.was) ∙ c.end_of.ensures in
    c.section_gaps.ensures.gaps
    ∙ ap₂ (λ (m start : ℕ). into before (gaps_from g.symbol g.count a.k m end start (keep_if (below a.k end) l))) c.default_of-least.ensures (ap (λ h. h.address) c.record-start.ensures)
    ∙ section_on g s a.k l before end is
