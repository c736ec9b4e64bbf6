-- `stage_tables::take_relocs` meets its contract. A refused size is the table's refusal; else the places are those of its records, and what is said of the
-- records there is said of the table. Assumes nothing.
use Prim.Native.Nat.{ℕ, ◌/◌}
use mathlib.Core.List.{List}
use native.Mathlib.Omega.{arith}
use lib.ListN.{length}
use Rattle.obj.specs.Records.{stage_places}
use Rattle.obj.proofs.Errors.{is_err}
use Rattle.tables.specs.Records.{sections_in, relocs_in, reloc_fault}
use Rattle.stage_tables.proofs.Laws.{filled_refused, size_few, size_held, records_said}
use Rattle.stage_tables.proofs.take_relocs.Goals as goal

pub returns-in_err-fill_table : goal.returns-in_err-fill_table
returns-in_err-fill_table c =
    let a = c.args in
    let fault : List ℕ → ℕ → ℕ = λ p. reloc_fault (sections_in a.heads.now.bytes.now a.heads.now.places.now) a.symbols (relocs_in a.b.now p) in
    rw (is_err _ c.from_residual.ensures.1) (filled_refused 23 _ a.b.now _ (fault (stage_places 23 (length a.b.now / 23))) c.in_err-fill_table.ensures)

pub table_at-requires : goal.table_at-requires
table_at-requires c =
    let a = c.args in
    (omega arith, omega (arith, size_few 23 a.ceiling a.b.now _ c.in_ok-fill_table.ensures, c.requires.1.long, c.fill_table.auto.places))

pub check_relocs-requires : goal.check_relocs-requires
check_relocs-requires c =
    let t = c.table_at.ensures in
    (c.requires.0, rw (t.0, t.1) (size_held 23 _ c.args.b.now _ c.in_ok-fill_table.ensures c.requires.1.few), c.requires.2)

pub returns : goal.returns
returns c =
    let a = c.args in
    let t = c.table_at.ensures in
    let fault : List ℕ → ℕ → ℕ = λ p. reloc_fault (sections_in a.heads.now.bytes.now a.heads.now.places.now) a.symbols (relocs_in a.b.now p) in
    records_said 23 _ a.b.now _ c.in_ok-fill_table.ensures fault (rw (t.0, t.1) at c.check_relocs.ensures)
