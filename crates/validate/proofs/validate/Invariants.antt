-- `validate::validate` meets its contract. Invariant: checking the rows that are left, after the section and end of the last one passed, is checking
-- the table.
use mathlib.Core.Path.{◌≡◌}
use Prim.Native.Nat.{◌-◌, ◌≤◌}
use lib.ListN.{length}
use Rattle.lists.specs.Rows.{tabulate}
use Rattle.symbol_order.specs.Order.{symbol_of}
use Rattle.splits.specs.Columns.{row_at}
use Rattle.splits.specs.Table.{columns_of, rows_of}
use Rattle.validate.specs.Check.{validate_from, validate}
use Rattle.validate.proofs.validate.Given as goal

abbrev pub invariant-loop-i : goal.invariant-loop-i
invariant-loop-i l =
    (l.i ≤ l.splits.count)
    × (validate_from (symbol_of l.table.bytes.now l.table.places.now) (length l.table.places.now) l.before l.last (tabulate (row_at (columns_of l.splits)) l.i (l.splits.count - l.i))
    ≡ validate (symbol_of l.table.bytes.now l.table.places.now) (length l.table.places.now) (rows_of l.splits))
