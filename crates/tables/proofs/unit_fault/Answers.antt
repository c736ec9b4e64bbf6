-- The number is the definition's: the record, its name's length and its test are those that the definition looks at.
use Rattle.std.proofs.Common.{ℕ, refl, ap, ◌∙◌}
use Rattle.tables.specs.Tables.{record_check}
use Rattle.tables.proofs.Faults.{unit_fault_is}
use Rattle.tables.proofs.unit_fault.Goals as goal

pub returns : goal.returns
returns c =
    let a = c.args in
    c.refuse_if.ensures
    ∙ ap (λ (n : ℕ). record_check n a.k) (unit_fault_is a.lengths.now a.units.now.table.bytes.now a.units.now.table.places.now _ c.requires c.record-u.ensures c.length_of.ensures c.unit_bad.ensures refl)
