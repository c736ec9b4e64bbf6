-- The number is the definition's: the record, its section and its test are those that the definition looks at.
use Rattle.std.proofs.Common.{ℕ, refl, ap, ◌∙◌}
use Rattle.tables.specs.Tables.{record_check}
use Rattle.tables.proofs.Faults.{symbol_fault_is}
use Rattle.tables.proofs.symbol_fault.Goals as goal

pub returns : goal.returns
returns c =
    let a = c.args in
    c.refuse_if.ensures
    ∙ ap (λ (n : ℕ). record_check n a.k)
    (symbol_fault_is a.names a.heads.now.table.bytes.now a.heads.now.table.places.now a.symbols.now.table.bytes.now a.symbols.now.table.places.now _ c.requires c.record-s.ensures c.section_or_none-home.ensures c.symbol_bad.ensures refl)
