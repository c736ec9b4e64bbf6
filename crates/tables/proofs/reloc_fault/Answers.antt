-- The number is the definition's: the section and the floor are those that the definition looks at.
use Rattle.std.proofs.Common.{ℕ, refl, ap, ◌∙◌, rules}
use Rattle.tables.specs.Tables.{record_check}
use Rattle.tables.proofs.Faults.{reloc_fault_is}
use Rattle.tables.proofs.reloc_fault.Goals as goal

pub returns : goal.returns
returns c =
    let a = c.args in
    c.refuse_if.ensures
    ∙ ap (λ (n : ℕ). record_check n a.k)
    (reloc_fault_is a.heads.now.table.bytes.now a.heads.now.table.places.now _ a.floors.now _ c.section_or_none-home.ensures (search rules) c.reloc_bad.ensures refl)
