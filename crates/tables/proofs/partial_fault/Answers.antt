-- The number is the definition's, whatever origin the record is read with.
use Rattle.std.proofs.Common.{ℕ, refl, ap, ◌∙◌}
use Rattle.tables.specs.Tables.{record_check}
use Rattle.tables.proofs.Faults.{partial_fault_is}
use Rattle.tables.proofs.partial_fault.Goals as goal

pub returns : goal.returns
returns c =
    let a = c.args in
    c.refuse_if.ensures
    ∙ ap (λ (n : ℕ). record_check n a.k)
    (partial_fault_is a.lengths.now a.table.now.bytes.now a.table.now.places.now _ c.requires.1 65535 c.read_partial-s.ensures
    c.length_of-unit_len.ensures c.length_of-rename_len.ensures c.split_bad.ensures refl)
