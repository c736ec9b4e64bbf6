-- A refused size is the table's refusal; else the places are those of its records, and what is said of the records there is said of the table.
use Rattle.std.proofs.Common.{◌/◌, arith, length}
use Rattle.obj.specs.Records.{stage_places}
use Rattle.obj.proofs.Errors.{is_err}
use Rattle.stage_tables.proofs.Laws.{filled_refused, size_few, size_held, records_said}
use Rattle.stage_tables.proofs.check_table.Goals as goal

pub returns-in_err-fill_table : goal.returns-in_err-fill_table
returns-in_err-fill_table g c = λ fault h.
    let a = c.args in
    rw (is_err _ c.from_residual.ensures.1) (filled_refused a.width _ a.b.now _ (fault (stage_places a.width (length a.b.now / a.width))) c.in_err-fill_table.ensures)

pub table_at-requires : goal.table_at-requires
table_at-requires g c =
    let a = c.args in
    (c.requires.room.0, omega (arith, size_few a.width a.ceiling a.b.now _ c.in_ok-fill_table.ensures, c.requires.room.2.long, c.fill_table.auto.places))

pub check-requires : goal.check-requires
check-requires g c =
    let a = c.args in
    let t = c.table_at.ensures in
    c.requires.asked _ (rw (t.0, t.1) (size_held a.width _ a.b.now _ c.in_ok-fill_table.ensures c.requires.room.2.few))

pub returns : goal.returns
returns g c = λ fault h.
    let a = c.args in
    let t = c.table_at.ensures in
    records_said a.width _ a.b.now _ c.in_ok-fill_table.ensures fault (rw t.1 at (h _ _ t.0 c.check.ensures))
