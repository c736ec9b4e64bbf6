-- `mend::check_ends` meets its contract. Assumes nothing.
use mathlib.Core.Path.{ap, ◌∙◌}
use Rattle.std.specs.Prelude.{ℕ, ◌+◌, ◌-◌, Option, get_or}
use Rattle.std.specs.Option.{unwrap_or}
use Rattle.lists.specs.Rows.{tabulate}
use Rattle.lists.proofs.Parts.{tabulate_all}
use Rattle.obj.specs.Answers.{meaning}
use Rattle.splits.specs.Columns.{row_of, row_at}
use Rattle.splits.specs.Table.{columns_of}
use Rattle.mend.specs.Mend.{mend_check}
use Rattle.mend.proofs.Steps.{gets, check_stops, check_goes, check_ended}
use Rattle.mend.proofs.check_ends.Goals as goal

pub loop-i-init : goal.loop-i-init
loop-i-init c = ap (mend_check _) (tabulate_all _ _)

pub returns-then-end-splits : goal.returns-then-end-splits
unfolding row_of
returns-then-end-splits c =
    let a = c.args in
    let l = c.loop-i in
    let f = row_at (columns_of a.splits.now) in
    ap meaning c.refuse.ensures
    ∙ check_stops a.section_ends.now f a.splits.now.count l.i c.loop-i-test.true _
    (c.unwrap_or-end.ensures ∙ ap (λ (d : Option ℕ). unwrap_or d (get_or a.splits.now.ends.now l.i 0)) c.decide.ensures ∙ gets a.section_ends.now (f l.i) (tabulate f (l.i + 1) (a.splits.now.count - (l.i + 1))))
    c.if-end-splits.true
    ∙ l.invariant

pub loop-i-preserved : goal.loop-i-preserved
unfolding row_of
loop-i-preserved c =
    let a = c.args in
    let l = c.loop-i in
    let f = row_at (columns_of a.splits.now) in
    check_goes a.section_ends.now f a.splits.now.count l.i c.loop-i-test.true _
    (c.unwrap_or-end.ensures ∙ ap (λ (d : Option ℕ). unwrap_or d (get_or a.splits.now.ends.now l.i 0)) c.decide.ensures ∙ gets a.section_ends.now (f l.i) (tabulate f (l.i + 1) (a.splits.now.count - (l.i + 1))))
    c.if-end-splits.false
    ∙ l.invariant

pub returns : goal.returns
returns c =
    let a = c.args in
    let l = c.loop-i in
    let f = row_at (columns_of a.splits.now) in
    check_ended a.section_ends.now f a.splits.now.count l.i c.loop-i-test.false ∙ l.invariant
