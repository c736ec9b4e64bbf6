-- `entry_questions::alignment` meets its contract: 20 past the last split, else the alignment of the split.
-- Assumes nothing.
use mathlib.Core.Path.{sym, ap, ◌∙◌}
use Prim.Native.Nat.{ℕ}
use lib.ListN.{length}
use Rattle.std.proofs.Common.{rules}
use Rattle.std.specs.Prelude.{Result}
use Rattle.obj.specs.declared.Refusal.{Refusal}
use Rattle.obj.specs.Answers.{meaning}
use Rattle.obj.proofs.Errors.{is_err}
use Rattle.lists.specs.Outcome.{accepted}
use Rattle.sections.specs.Alignment.{chosen}
use Rattle.sections.specs.Image.{image_in}
use Rattle.sections.specs.Sections.{head_of}
use Rattle.entry_questions.specs.Entry.{split_of}
use Rattle.entry_questions.proofs.Laws.{no_split, chosen_of, alignment_else, alignment_given, alignment_refused}
use Rattle.entry_questions.proofs.alignment.Goals as goal

pub returns-then-splits-k : goal.returns-then-splits-k
returns-then-splits-k c =
    let a = c.args in
    let g = image_in a.obj.now in
    let head = head_of a.obj.now.heads.bytes.now a.obj.now.heads.places.now in
    let count = length a.splits.now.places.now in
    let split = split_of a.splits.now.bytes.now a.splits.now.places.now in
    ap (λ (x : Result ℕ Refusal). meaning x) c.refuse.ensures ∙ sym (no_split g head count split a.which c.if-splits-k.true)

pub returns-in_err-chosen : goal.returns-in_err-chosen
returns-in_err-chosen c =
    let a = c.args in
    let g = image_in a.obj.now in
    let head = head_of a.obj.now.heads.bytes.now a.obj.now.heads.places.now in
    let count = length a.splits.now.places.now in
    let split = split_of a.splits.now.bytes.now a.splits.now.places.now in
    let s = c.record-s.result in
    let said = sym (alignment_else s.section s.start c.split_alignment-chosen.result c.map_err.result c.map_err.ensures.cases (λ e d q. search rules)) ∙ c.split_alignment-chosen.ensures in
    rw (is_err _ c.from_residual.ensures.1) (alignment_refused g head count split a.which c.if-splits-k.false c.record-s.ensures c.map_err.result c.in_err-chosen.was said)

pub returns : goal.returns
returns c =
    let a = c.args in
    let g = image_in a.obj.now in
    let head = head_of a.obj.now.heads.bytes.now a.obj.now.heads.places.now in
    let count = length a.splits.now.places.now in
    let split = split_of a.splits.now.bytes.now a.splits.now.places.now in
    let s = c.record-s.result in
    let said = sym (alignment_else s.section s.start c.split_alignment-chosen.result c.map_err.result c.map_err.ensures.cases (λ e d q. search rules)) ∙ c.split_alignment-chosen.ensures in
    ap accepted c.value.ensures
    ∙ alignment_given g head count split a.which c.if-splits-k.false c.record-s.ensures (chosen c.in_ok-chosen.chosen) (sym (ap chosen_of c.in_ok-chosen.was) ∙ said)
