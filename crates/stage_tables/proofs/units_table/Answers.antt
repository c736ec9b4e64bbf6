-- `stage_tables::units_table` meets its contract: the places of a table that passed stand at the front of the column.
use Rattle.std.proofs.Common.{arith}
use Rattle.stage_tables.proofs.Laws.{filled_few, table_taken}
use Rattle.stage_tables.proofs.units_table.Goals as goal

pub table_at-requires : goal.table_at-requires
table_at-requires c =
    let few = filled_few 8 c.args.ceiling c.args.b.now _ _ c.in_ok-take_units.ensures in
    (omega arith, omega (arith, few, c.requires.long, c.take_units.auto.places))

pub returns : goal.returns
returns c =
    let t = c.table_at.ensures in
    table_taken 8 c.args.ceiling c.args.b.now _ _ c.in_ok-take_units.ensures c.requires.few _ t.0 t.1
