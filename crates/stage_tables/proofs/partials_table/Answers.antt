-- `stage_tables::partials_table` meets its contract: the places of a table that passed stand at the front of the column.
use Rattle.std.proofs.Common.{arith}
use Rattle.obj.specs.Records.{partial_width}
use Rattle.stage_tables.proofs.Laws.{filled_few, table_taken}
use Rattle.stage_tables.proofs.partials_table.Goals as goal

pub table_at-requires : goal.table_at-requires
table_at-requires c =
    let few = filled_few partial_width c.args.ceiling c.args.b.now _ _ c.in_ok-take_partials.ensures in
    (omega arith, omega (arith, few, c.requires.long, c.take_partials.auto.places))

pub returns : goal.returns
returns c =
    let t = c.table_at.ensures in
    table_taken partial_width c.args.ceiling c.args.b.now _ _ c.in_ok-take_partials.ensures c.requires.few _ t.0 t.1
