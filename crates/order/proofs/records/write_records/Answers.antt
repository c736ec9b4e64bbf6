-- `order::records::write_records` meets its contract: the column is blank, then has the units made by hand, then the records, and so each unit's own.
use mathlib.Core.Path.{sym, ap, subst, ◌∙◌}
use mathlib.Core.List.{List}
use Prim.Native.Nat.{ℕ, ◌<◌}
use native.Mathlib.Omega.{arith}
use lib.ListN.{length-map}
use lib.Seq.{sets}
use Rattle.lists.specs.Sort.{All}
use Rattle.obj.specs.Records.{unit_at}
use Rattle.obj.specs.declared.Unit as units
use Rattle.tables.specs.Records.{units_in}
use Rattle.splits.specs.Table.{rows_of}
use Rattle.order.specs.Bytes.{units_bytes}
use Rattle.order.proofs.Marks.{filled, mark_inside, records_are}
use Rattle.order.proofs.records.write_records.Goals as goal

pub write_units-requires : goal.write_units-requires
write_units-requires c =
    let s = c in
    let a = s.args in
    let t = a.tables.now in
    let splits = rows_of t.splits in
    let us = units_in t.units.bytes.now t.units.places.now in
    let b = c.blank in
    let h = c.mark_hand in
    let r = c.mark_records in
    let f = filled splits us a.column.now b.new.column h.new.column r.new.column b.ensures b.auto.column h.auto.column r.auto.column h.ensures r.ensures in
    let w = s.requires.2 in (
      record {
        whole = t.whole;
        inside = λ v q low.
            let is = f.0.marks v q in
            omega (arith, is, mark_inside splits us v (omega (arith, is)), length-map t.units.places.now (unit_at t.units.bytes.now));
      },
      record { inside = w.inside; named = subst (λ (k : ℕ). All (λ x. x < k) a.nodes.now) (sym f.1) w.named; room = w.room },
    )

pub returns : goal.returns
returns c =
    let s = c in
    let a = s.args in
    let t = a.tables.now in
    let splits = rows_of t.splits in
    let us = units_in t.units.bytes.now t.units.places.now in
    let b = c.blank in
    let h = c.mark_hand in
    let r = c.mark_records in
    let f = filled splits us a.column.now b.new.column h.new.column r.new.column b.ensures b.auto.column h.auto.column r.auto.column h.ensures r.ensures in
    let w = s.requires.2 in
    c.write_units.ensures
    ∙ ap (λ (l : List units.Unit). sets a.out.now 0 (units_bytes l))
    (records_are splits us r.new.column a.nodes.now a.list.now (omega (arith, t.few_units, length-map t.units.places.now (unit_at t.units.bytes.now))) s.requires.1 f.0
    w.inside (subst (λ (k : ℕ). All (λ x. x < k) a.nodes.now) (sym f.1) w.named))
