-- `order::records::write_units` meets its contract. Invariant: writing the records that are left from here on writes them all.
use mathlib.Core.Path.{◌≡◌}
use mathlib.Core.List.{map}
use Prim.Native.Nat.{◌*◌, ◌≤◌}
use lib.ListN.{length, drop}
use lib.Seq.{sets}
use Rattle.tables.specs.Records.{units_in}
use Rattle.order.specs.Bytes.{units_bytes}
use Rattle.order.specs.Columns.{node_record}
use Rattle.order.proofs.records.write_units.Given as goal

abbrev pub invariant-loop-i : goal.invariant-loop-i
invariant-loop-i l =
    (l.i ≤ length l.list)
    × (length l.out ≡ length l.initial.out)
    × (sets l.out (8 * l.i) (units_bytes (map (node_record (units_in l.unit_table.bytes.now l.unit_table.places.now) l.column l.nodes) (drop l.i l.list)))
    ≡ sets l.initial.out 0 (units_bytes (map (node_record (units_in l.unit_table.bytes.now l.unit_table.places.now) l.column l.nodes) l.list)))
