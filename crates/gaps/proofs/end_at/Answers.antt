-- At the next start if all symbols were passed, else 41, 42 or the symbol's address.
use Rattle.std.proofs.Common.{◌<◌, ◌≡◌, ◌∙◌, refl, sym, ap, arith, length, get_or}
use Rattle.lists.specs.Outcome.{accepted}
use Rattle.obj.specs.declared.Symbol.{Symbol}
use Rattle.symbol_order.specs.Order.{symbol_of}
use Rattle.symbol_order.proofs.Parts.{held_at}
use Rattle.gaps.proofs.Marks.{ends_next, ends_astray, ends_nowhere, ends_there, astray_is, name_marked}
use Rattle.gaps.proofs.end_at.Goals as goal
use Rattle.gaps.proofs.end_at.Goals.{After-record-y}

-- the symbol that is read is symbol j of the part
abbrev here : After-record-y → Symbol
here c = let a = c.args in symbol_of a.table.now.bytes.now a.table.now.places.now (get_or a.part.now a.j 0)

read : (c : After-record-y) → c.record-y.result ≡ here c
read c = let a = c.args in c.record-y.ensures ∙ ap (symbol_of a.table.now.bytes.now a.table.now.places.now) c.number.ensures

-- .. whose name has a mark
room : (c : After-record-y) → (here c).name < length c.args.marks.now
room c = let a = c.args in name_marked _ _ _ a.marks.now a.marks.now c.requires.0 c.requires.1 refl a.j c.if-part-j.false

pub returns-then-part-j : goal.returns-then-part-j
returns-then-part-j c = let p = c.requires in ends_next _ _ _ _ _ _ _ p.2 p.3 c.if-part-j.true

pub record-y-requires : goal.record-y-requires
record-y-requires c = held_at _ _ _ c.requires.0 _ _ c.if-part-j.false c.number.ensures

pub bounds-marks-k : goal.bounds-marks-k
bounds-marks-k c =
    let h = (goal.at.bounds-marks-k c).After-record-y in
    omega (arith, ap (λ (y : Symbol). y.name) (read h), room h)

pub returns-then-marks-k : goal.returns-then-marks-k
returns-then-marks-k c =
    let a = c.args in
    let h = (goal.at.returns-then-marks-k c).After-record-y in
    rw c.refuse.ensures (ends_astray _ _ _ _ _ _ _ c.requires.2 c.requires.3 c.if-part-j.false (room h) (sym (astray_is a.marks.now _ _ _ refl (read h)) ∙ c.if-marks-k.true))

pub returns-then-y-current : goal.returns-then-y-current
returns-then-y-current c =
    let a = c.args in
    let h = (goal.at.returns-then-y-current c).After-record-y in
    rw c.refuse-then-y-current.ensures (ends_nowhere _ _ _ _ _ _ _ c.requires.2 c.requires.3 c.if-part-j.false (room h) (sym (astray_is a.marks.now _ _ _ refl (read h)) ∙ c.if-marks-k.false)
    (omega (arith, ap (λ (y : Symbol). y.address) (read h), c.if-y-current.true)))

pub returns : goal.returns
returns c =
    let a = c.args in
    let h = (goal.at.returns c).After-record-y in
    ap (λ (y : Symbol). accepted y.address) (read h)
    ∙ ends_there _ _ _ _ _ _ _ c.requires.2 c.requires.3 c.if-part-j.false (room h) (sym (astray_is a.marks.now _ _ _ refl (read h)) ∙ c.if-marks-k.false)
    (omega (arith, ap (λ (y : Symbol). y.address) (read h), c.if-y-current.false))
