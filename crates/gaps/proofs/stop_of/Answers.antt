-- The symbol that is read is symbol j of the part, whose name has a mark.
use Rattle.std.proofs.Common.{ℕ, ◌+◌, ◌<◌, ◌≡◌, ◌∙◌, refl, sym, ap, subst, arith, length, get_or}
use lib.ListN.{set}
use Rattle.obj.specs.declared.Symbol.{Symbol}
use Rattle.symbol_order.specs.Order.{symbol_of}
use Rattle.symbol_order.proofs.Parts.{held_at}
use Rattle.symbols.specs.Ranges.{stripped}
use Rattle.gaps.proofs.Marks.{Passing, passing_start, passing_stripped, passing_ends, passing_named, passing_done, test_is, name_marked}
use Rattle.gaps.specs.Found.{Stopped}
use Rattle.gaps.proofs.stop_of.Goals as goal
use Rattle.gaps.proofs.stop_of.Goals.{After-record-y}

-- the symbol that is read is symbol j of the part
abbrev here : After-record-y → Symbol
here c = let a = c.args in symbol_of a.table.now.bytes.now a.table.now.places.now (get_or a.part.now c.loop-j.j 0)

read : (c : After-record-y) → c.record-y.result ≡ here c
read c = let a = c.args in c.record-y.ensures ∙ ap (symbol_of a.table.now.bytes.now a.table.now.places.now) c.from.ensures

-- .. whose name has a mark
room : (c : After-record-y) → (here c).name < length c.loop-j.marks
room c = let a = c.args in name_marked _ _ _ a.marks.now c.loop-j.marks c.requires.0 c.requires.1 c.loop-j.auto.marks c.loop-j.j c.loop-j-test.true

pub loop-j-init : goal.loop-j-init
loop-j-init c = passing_start _ _ _ _ c.requires.2

pub record-y-requires : goal.record-y-requires
record-y-requires c = held_at _ _ _ c.requires.0 _ _ c.loop-j-test.true c.from.ensures

pub loop-j-preserved-then-is_stripped : goal.loop-j-preserved-then-is_stripped
loop-j-preserved-then-is_stripped c =
    let h = (goal.at.loop-j-preserved-then-is_stripped c).After-record-y in
    passing_stripped _ _ _ _ _ c.loop-j.invariant c.loop-j-test.true (ap stripped (sym (read h)) ∙ sym c.is_stripped.ensures ∙ c.if-is_stripped.true)

pub bounds-marks-k : goal.bounds-marks-k
bounds-marks-k c =
    let h = (goal.at.bounds-marks-k c).After-record-y in
    omega (arith, ap (λ (y : Symbol). y.name) (read h), room h)

pub bounds-marks-k-in-loop-j : goal.bounds-marks-k-in-loop-j
bounds-marks-k-in-loop-j c =
    let h = (goal.at.bounds-marks-k-in-loop-j c).After-record-y in
    omega (arith, ap (λ (y : Symbol). y.name) (read h), room h)

pub returns-then-marks-k : goal.returns-then-marks-k
returns-then-marks-k c =
    let a = c.args in
    let l = c.loop-j in
    let h = (goal.at.returns-then-marks-k c).After-record-y in
    passing_ends _ _ _ _ _ l.invariant c.loop-j-test.true (ap stripped (sym (read h)) ∙ sym c.is_stripped.ensures ∙ c.if-is_stripped.false) (room h)
    (sym (test_is l.marks a.current _ _ _ _ refl c.misses.ensures (read h)) ∙ c.if-marks-k.true)

pub loop-j-preserved : goal.loop-j-preserved
loop-j-preserved c =
    let a = c.args in
    let l = c.loop-j in
    let h = (goal.at.loop-j-preserved c).After-record-y in
    let passed = passing_named _ _ _ _ _ l.invariant c.loop-j-test.true (ap stripped (sym (read h)) ∙ sym c.is_stripped.ensures ∙ c.if-is_stripped.false) (room h)
    (sym (test_is l.marks a.current _ _ _ _ refl c.misses.ensures (read h)) ∙ c.if-marks-k.false) in
    subst (λ (m : ℕ). Passing (symbol_of a.table.now.bytes.now a.table.now.places.now) a.current a.part.now (set l.marks m 1) (l.j + 1)) (sym (ap (λ (y : Symbol). y.name) (read h))) passed

pub returns : goal.returns
returns c =
    let a = c.args in
    let l = c.loop-j in
    subst (λ (j : ℕ). Stopped (symbol_of a.table.now.bytes.now a.table.now.places.now) a.current a.part.now l.marks j) (let e : l.j ≡ length a.part.now = omega (arith, c.loop-j-test.false, l.auto.j-end) in e)
    (passing_done _ _ _ _ _ c.loop-j-test.false l.invariant)
