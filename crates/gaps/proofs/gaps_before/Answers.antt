-- 11, 40, or the gaps up to the split's start.
use Rattle.std.proofs.Common.{rules, ◌∙◌, refl, sym, ap}
use Rattle.obj.specs.Answers.{meaning}
use Rattle.obj.proofs.Errors.{is_err}
use Rattle.sections.proofs.Refused.{refused_else}
use Rattle.gaps.specs.Gaps.{into}
use Rattle.gap_columns.specs.Table.{found_in}
use Rattle.gaps.specs.Found.{next_meaning}
use Rattle.gaps.proofs.Gathered.{into-stops}
use Rattle.gaps.proofs.Starts.{before_backwards, before_below, before_on, next_good}
use Rattle.gaps.proofs.gaps_before.Goals as goal

pub returns-in_err-alignment-clause-gaps : goal.returns-in_err-alignment-clause-gaps
returns-in_err-alignment-clause-gaps c =
    let a = c.args in
    let before = found_in a.found.now in
    let said = next_meaning a.search.now.here.section a.s.start in
    let is = sym (refused_else said c.next_alignment.result c.map_err.result c.map_err.ensures.cases (λ e d q. search rules) (λ x. refl) (λ e. refl) ∙ ap meaning c.in_err-alignment.was) ∙ c.next_alignment.ensures in
    rw (is_err _ c.from_residual.ensures.1) (sym (ap (into before) (before_backwards _ _ _ _ a.current _ is) ∙ into-stops before _ _ _))

pub returns-then-s-current-clause-gaps : goal.returns-then-s-current-clause-gaps
returns-then-s-current-clause-gaps c =
    let a = c.args in
    let before = found_in a.found.now in
    let said = next_meaning a.search.now.here.section a.s.start in
    let is = sym (refused_else said c.next_alignment.result c.map_err.result c.map_err.ensures.cases (λ e d q. search rules) (λ x. refl) (λ e. refl) ∙ ap meaning c.in_ok-alignment.was) ∙ c.next_alignment.ensures in
    rw c.refuse.ensures (sym (ap (into before) (before_below _ _ _ _ _ _ _ is c.if-s-current.true) ∙ into-stops before _ _ _))

pub gaps_to-requires : goal.gaps_to-requires
gaps_to-requires c =
    let a = c.args in
    let p = c.requires in
    let h = a.search.now.here in
    let said = next_meaning a.search.now.here.section a.s.start in
    let is = sym (refused_else said c.next_alignment.result c.map_err.result c.map_err.ensures.cases (λ e d q. search rules) (λ x. refl) (λ e. refl) ∙ ap meaning c.in_ok-alignment.was) ∙ c.next_alignment.ensures in
    (p.0, c.if-s-current.false, p.1, next_good _ _ _ _ a.current a.s _ is h.sound h.good p.2)

pub returns-clause-gaps : goal.returns-clause-gaps
returns-clause-gaps c =
    let a = c.args in
    let said = next_meaning a.search.now.here.section a.s.start in
    let is = sym (refused_else said c.next_alignment.result c.map_err.result c.map_err.ensures.cases (λ e d q. search rules) (λ x. refl) (λ e. refl) ∙ ap meaning c.in_ok-alignment.was) ∙ c.next_alignment.ensures in
    c.gaps_to.ensures.gaps ∙ ap (into (found_in a.found.now)) (sym (before_on _ _ _ _ _ _ _ is c.if-s-current.false))
