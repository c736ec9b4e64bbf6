-- `order::records::mark_records` meets its contract. Invariant: the records from k on are marked, the first of a name last.
use mathlib.Core.Path.{◌≡◌}
use Prim.Native.Nat.{◌≤◌}
use lib.ListN.{length}
use Rattle.tables.specs.Records.{units_in}
use Rattle.order.proofs.Marks.{MarkedFrom}
use Rattle.order.proofs.records.mark_records.Given as goal

abbrev pub invariant-loop-k : goal.invariant-loop-k
invariant-loop-k l = (l.k ≤ length l.unit_table.places.now) × (length l.column ≡ length l.initial.column) × MarkedFrom (units_in l.unit_table.bytes.now l.unit_table.places.now) l.k l.initial.column l.column
