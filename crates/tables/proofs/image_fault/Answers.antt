-- The bytes come first, then the record.
use Rattle.std.proofs.Common.{ℕ, arith, refl, ap, ◌∙◌}
use Rattle.obj.specs.Answers.{meaning}
use Rattle.tables.specs.Tables.{record_check}
use Rattle.tables.proofs.Loops.{some_fault}
use Rattle.tables.proofs.Faults.{image_cut, image_whole}
use Rattle.tables.proofs.image_fault.Goals as goal

pub returns-then-bytes_cut : goal.returns-then-bytes_cut
returns-then-bytes_cut c =
    let a = c.args in
    ap meaning c.refuse.ensures
    ∙ some_fault 1 a.k (omega arith)
    ∙ ap (λ (n : ℕ). record_check n a.k) (image_cut a.lengths.now _ _ a.sections.now.table.bytes.now a.sections.now.table.places.now _ c.requires c.record.ensures c.bytes_cut.ensures c.if-bytes_cut.true)

pub returns : goal.returns
returns c =
    let a = c.args in
    c.section_fault.ensures
    ∙ ap (λ (n : ℕ). record_check n a.k) (image_whole a.lengths.now _ _ a.sections.now.table.bytes.now a.sections.now.table.places.now _ c.requires c.record.ensures c.bytes_cut.ensures c.if-bytes_cut.false refl)
