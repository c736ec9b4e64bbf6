-- `order::records::mark_hand` meets its contract. Invariant: of the first i rows, the units that have one made by hand are marked.
use mathlib.Core.Path.{◌≡◌}
use Prim.Native.Nat.{◌≤◌}
use lib.ListN.{length}
use Rattle.lists.specs.Rows.{tabulate}
use Rattle.splits.specs.Columns.{row_at}
use Rattle.splits.specs.Table.{columns_of}
use Rattle.order.specs.Columns.{HandMarked}
use Rattle.order.proofs.records.mark_hand.Given as goal

abbrev pub invariant-loop-i : goal.invariant-loop-i
invariant-loop-i l = (l.i ≤ l.splits.count) × (length l.column ≡ length l.initial.column) × HandMarked (tabulate (row_at (columns_of l.splits)) 0 l.i) l.initial.column l.column
