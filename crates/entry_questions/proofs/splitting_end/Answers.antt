-- `entry_questions::splitting_end` meets its contract: 20 past the last section, else its splitting end.
-- Assumes nothing.
use mathlib.Core.Path.{sym, ap, ◌∙◌}
use Prim.Native.Nat.{ℕ}
use Rattle.std.specs.Prelude.{Result}
use Rattle.obj.specs.declared.Refusal.{Refusal}
use Rattle.obj.specs.declared.Section.{Section}
use Rattle.obj.specs.Answers.{meaning}
use Rattle.std.proofs.Common.{rules}
use Rattle.sections.specs.Ends.{end_meaning}
use Rattle.sections.specs.Image.{image_in}
use Rattle.sections.specs.Sections.{sections_of}
use Rattle.entry_questions.proofs.Laws.{no_section, end_there, end_else}
use Rattle.entry_questions.proofs.splitting_end.Goals as goal

pub returns-then-obj-n : goal.returns-then-obj-n
returns-then-obj-n c =
    let a = c.args in
    let g = image_in a.obj.now in
    let sections = sections_of a.obj.now.heads.bytes.now a.obj.now.heads.places.now a.image.now.bytes.now a.image.now.places.now in
    ap (λ (x : Result ℕ Refusal). meaning x) c.refuse.ensures ∙ sym (no_section g sections a.section c.if-obj-n.true)

pub returns : goal.returns
returns c =
    let a = c.args in
    let g = image_in a.obj.now in
    let sections = sections_of a.obj.now.heads.bytes.now a.obj.now.heads.places.now a.image.now.bytes.now a.image.now.places.now in
    sym (end_else a.section c.record-start.result.address c.end_of-end.result c.map_err.result c.map_err.ensures.cases (λ e d q. search rules))
    ∙ ap (λ (h : Section). end_meaning a.section h.address c.end_of-end.result) c.record-start.ensures
    ∙ c.end_of-end.ensures ∙ sym (end_there g sections a.section c.if-obj-n.false)
