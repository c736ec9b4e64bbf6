-- `stage_tables::splits_table` meets its contract: the places of a table that passed stand at the front of the column.
use Rattle.std.proofs.Common.{arith}
use Rattle.obj.specs.Records.{split_width}
use Rattle.stage_tables.proofs.Laws.{filled_few, table_taken}
use Rattle.stage_tables.proofs.splits_table.Goals as goal

pub table_at-requires : goal.table_at-requires
table_at-requires c =
    let few = filled_few split_width c.args.ceiling c.args.b.now _ _ c.in_ok-take_splits.ensures in
    (omega arith, omega (arith, few, c.requires.1.long, c.take_splits.auto.places))

pub returns : goal.returns
returns c =
    let t = c.table_at.ensures in
    table_taken split_width c.args.ceiling c.args.b.now _ _ c.in_ok-take_splits.ensures c.requires.1.few _ t.0 t.1
