-- `order::records::write_units` meets its contract. Invariant: writing the records that are left from here on writes them all.
use mathlib.Core.Path.{sym, ap, ◌∙◌}
use mathlib.Core.List.{List, map}
use Prim.Native.Nat.{ℕ, ◌+◌, ◌*◌, ◌<◌}
use native.Mathlib.Omega.{arith}
use lib.ListN.{length, get_or, drop}
use lib.Seq.{sets}
use Rattle.lists.proofs.All.{all_at}
use Rattle.obj.specs.declared.Unit as units
use Rattle.tables.specs.Records.{units_in}
use Rattle.obj.specs.Bytes.{bytes_of_unit}
use Rattle.order.specs.Bytes.{units_bytes}
use Rattle.order.specs.Columns.{node_record}
use Rattle.order.proofs.Bytes.{written_turn, written_all}
use Rattle.order.proofs.records.write_units.Goals as goal

pub node_record-u-requires : goal.node_record-u-requires
node_record-u-requires c =
    let s = c in
    let node : get_or s.args.list.now c.loop-i.i 0 < length s.args.nodes.now = all_at c.loop-i.i 0 s.requires.1.inside c.loop-i-test.true in
    (s.requires.0, node, all_at (get_or s.args.list.now c.loop-i.i 0) 0 s.requires.1.named node)

pub loop-i-preserved : goal.loop-i-preserved
loop-i-preserved c =
    let a = c.args in
    let l = c.loop-i in
    let f = node_record (units_in a.unit_table.now.bytes.now a.unit_table.now.places.now) a.column.now a.nodes.now in
    let w =
    c.write.ensures.written
    ∙ ap (λ (u : units.Unit). sets l.out (8 * l.i) (bytes_of_unit u)) c.node_record-u.ensures in (
      omega arith,
      c.write.auto.out ∙ l.invariant.1,
      ap (λ (b : List ℕ). sets b (8 * (l.i + 1)) (units_bytes (map f (drop (l.i + 1) a.list.now)))) w
          ∙ written_turn l.out f a.list.now l.i c.loop-i-test.true
          ∙ l.invariant.2,
    )

pub returns : goal.returns
returns c =
    let a = c.args in
    let l = c.loop-i in
    let f = node_record (units_in a.unit_table.now.bytes.now a.unit_table.now.places.now) a.column.now a.nodes.now in
    sym (written_all l.out f a.list.now l.i c.loop-i-test.false) ∙ l.invariant.2
