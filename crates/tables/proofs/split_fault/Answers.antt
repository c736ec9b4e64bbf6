-- The number is the definition's: the record, what it names, and the split before it are those that the definition looks at.
use Rattle.std.proofs.Common.{ℕ, refl, ap, ◌∙◌}
use Rattle.tables.specs.Tables.{record_check}
use Rattle.tables.proofs.Faults.{split_fault_is}
use Rattle.tables.proofs.split_fault.Goals as goal

pub returns : goal.returns
returns c =
    let a = c.args in
    c.refuse_if.ensures
    ∙ ap (λ (n : ℕ). record_check n a.k)
    (split_fault_is a.lengths.now a.heads.now.table.bytes.now a.heads.now.table.places.now a.splits.now.table.bytes.now a.splits.now.table.places.now _ c.requires
    c.record-s.ensures c.length_of-unit_len.ensures c.length_of-rename_len.ensures c.section_or_none-home.ensures
    c.split_before-before.ensures c.split_bad-bad.ensures c.split_misplaced.ensures refl)
