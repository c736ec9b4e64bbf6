-- The mark that goes is that of the name of symbol j of the part.
use Rattle.std.proofs.Common.{ℕ, ◌+◌, ◌∙◌, sym, ap, subst, arith}
use lib.ListN.{set, take}
use Rattle.obj.specs.declared.Symbol.{Symbol}
use Rattle.symbol_order.specs.Order.{symbol_of}
use Rattle.symbol_order.proofs.Parts.{held_at}
use Rattle.gaps.specs.Found.{Unmarked}
use Rattle.gaps.proofs.Marks.{unmarked_start, unmarked_more, all_of, name_marked}
use Rattle.gaps.proofs.clear_marks.Goals as goal

pub loop-n-init : goal.loop-n-init
loop-n-init c = let a = c.args in unmarked_start (symbol_of a.table.now.bytes.now a.table.now.places.now) a.part.now a.marks.now

pub record-y-requires : goal.record-y-requires
record-y-requires c = held_at _ _ _ c.requires.0 _ _ c.loop-n-test.true c.from.ensures

pub bounds-marks-k : goal.bounds-marks-k
bounds-marks-k c =
    let a = c.args in
    let is = ap (λ (y : Symbol). y.name) (c.record-y.ensures ∙ ap (symbol_of a.table.now.bytes.now a.table.now.places.now) c.from.ensures) in
    omega (arith, is, name_marked _ _ _ a.marks.now c.loop-n.marks c.requires.0 c.requires.1 c.loop-n.auto.marks c.loop-n.n-index c.loop-n-test.true)

pub loop-n-preserved : goal.loop-n-preserved
loop-n-preserved c =
    let a = c.args in
    let l = c.loop-n in
    let is = ap (λ (y : Symbol). y.name) (c.record-y.ensures ∙ ap (symbol_of a.table.now.bytes.now a.table.now.places.now) c.from.ensures) in
    subst (λ (m : ℕ). Unmarked (symbol_of a.table.now.bytes.now a.table.now.places.now) (take (l.n-index + 1) a.part.now) a.marks.now (set l.marks m 0)) (sym is)
    (unmarked_more (symbol_of a.table.now.bytes.now a.table.now.places.now) a.part.now a.marks.now l.marks l.n-index c.loop-n-test.true (name_marked _ _ _ a.marks.now l.marks c.requires.0 c.requires.1 l.auto.marks l.n-index c.loop-n-test.true) l.invariant)

pub returns : goal.returns
returns c = let a = c.args in all_of (symbol_of a.table.now.bytes.now a.table.now.places.now) a.part.now a.marks.now c.loop-n.marks c.loop-n.n-index c.loop-n-test.false c.loop-n.invariant
