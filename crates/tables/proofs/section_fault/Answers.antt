-- The number is the definition's: the record, its name's length and its test are those that the definition looks at.
use Rattle.std.proofs.Common.{ℕ, refl, ap, ◌∙◌}
use Rattle.tables.specs.Tables.{record_check}
use Rattle.tables.proofs.Faults.{section_fault_is}
use Rattle.tables.proofs.section_fault.Goals as goal

pub returns : goal.returns
returns c =
    let a = c.args in
    c.refuse_if.ensures
    ∙ ap (λ (n : ℕ). record_check n a.k) (section_fault_is a.lengths.now a.sections.now.table.bytes.now a.sections.now.table.places.now _ c.requires c.record-s.ensures c.length_of.ensures c.section_bad.ensures refl)
