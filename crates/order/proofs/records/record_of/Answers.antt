-- `order::records::record_of` meets its contract: each kind of mark stands for its record.
use mathlib.Core.Path.{sym, ◌∙◌}
use mathlib.Core.List.{[]}
use Prim.Native.Nat.{◌<◌}
use native.Mathlib.Omega.{arith}
use Rattle.std.proofs.lemmas.List.{get_or-map}
use Rattle.obj.specs.Records.{unit_at}
use Rattle.obj.specs.Nothing.{no_unit}
use Rattle.order.proofs.Marks.{by_auto, by_hand, by_record}
use Rattle.order.proofs.records.record_of.Goals as goal

pub returns-then-mark-eq-AUTO : goal.returns-then-mark-eq-AUTO
returns-then-mark-eq-AUTO c = c.made_unit.ensures ∙ sym (by_auto [] _ _ _ c.if-mark-eq-AUTO.true)

pub returns-then-mark-eq-HAND : goal.returns-then-mark-eq-HAND
returns-then-mark-eq-HAND c = c.made_unit-then-mark-eq-HAND.ensures ∙ sym (by_hand [] _ _ _ c.if-mark-eq-AUTO.false c.if-mark-eq-HAND.true)

pub returns : goal.returns
returns c =
    let s = c in
    let a = s.args in
    let low : a.mark < 65534 = omega (arith, s.ranges, c.if-mark-eq-HAND.false, c.if-mark-eq-AUTO.false) in
    c.record.ensures
    ∙ sym (get_or-map (unit_at a.unit_table.now.bytes.now) a.unit_table.now.places.now a.mark 0 no_unit (s.requires.1 low))
    ∙ sym (by_record [] _ _ _ c.if-mark-eq-AUTO.false c.if-mark-eq-HAND.false)
