-- `order::records::mark_records` meets its contract. Invariant: the records from k on are marked, the first of a name last.
use mathlib.Core.Path.{◌≡◌, sym, ap, subst, ◌∙◌}
use Prim.Native.Nat.{ℕ, ◌+◌, ◌-◌, ◌<◌}
use native.Mathlib.Omega.{arith}
use lib.ListN.{length, length-map, length-set}
use Rattle.std.proofs.lemmas.List.{get_or-map}
use Rattle.obj.specs.Records.{unit_at}
use Rattle.obj.specs.declared.Unit as units
use Rattle.obj.specs.Nothing.{no_unit}
use Rattle.tables.specs.Records.{units_in}
use Rattle.order.proofs.Marks.{MarkedFrom, marked_more}
use Rattle.order.proofs.records.mark_records.Goals as goal

pub loop-k-preserved : goal.loop-k-preserved
loop-k-preserved c =
    let s = c in
    let a = s.args in
    let l = c.loop-k in
    let us = units_in a.unit_table.now.bytes.now a.unit_table.now.places.now in
    let low : l.k - 1 < length a.unit_table.now.places.now = omega (arith, c.loop-k-test.true, l.invariant.0) in
    let long = length-map a.unit_table.now.places.now (unit_at a.unit_table.now.bytes.now) in
    let same : l.k ≡ l.k - 1 + 1 = omega (arith, c.loop-k-test.true) in
    let is = ap (λ (u : units.Unit). u.name) c.record-u.ensures in
    let at = get_or-map (unit_at a.unit_table.now.bytes.now) a.unit_table.now.places.now (l.k - 1) 0 no_unit low in (
      omega arith,
      simp length-set l.invariant.1,
      marked_more us (l.k - 1) a.column.now l.column (omega arith)
          (subst (λ (i : ℕ). MarkedFrom us i a.column.now l.column) same l.invariant.2) c.record-u.result.name
          (is ∙ sym (ap (λ (u : units.Unit). u.name) at))
          (omega (arith, is, s.requires.named (l.k - 1) low, l.invariant.1)),
    )
