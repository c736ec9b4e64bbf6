-- `sections::lower`: a turn of the pass, over the symbol at j - 1.
use native.Mathlib.Omega.{arith}
use mathlib.Core.Path.{◌≡◌, sym, ap, ◌∙◌}
use Prim.Native.Nat.{ℕ, ◌-◌, ◌<◌}
use mathlib.Core.List.{reverse}
use mathlib.Core.Bool.{cond}
use lib.ListN.{length, take, get_or}
use Rattle.obj.specs.declared.Symbol.{Symbol}
use Rattle.symbol_order.specs.Order.{symbol_of}
use Rattle.lists.proofs.All.{all_at}
use Rattle.symbol_order.proofs.Parts.{held}
use Rattle.names.specs.Fixed.{is_linker_object}
use Rattle.sections.specs.Image.{Image, image_of}
use Rattle.sections.specs.Ends.{object_below, lowered}
use Rattle.sections.proofs.Laws.{lower_turn, lower_end, object_below_lem, name_held}
use Rattle.sections.proofs.lower.Goals as goal
use Rattle.sections.proofs.lower.Goals.{After-is_linker_generated_object, After-is_object_below, After-number}

-- the number at j - 1 is a symbol's
inside : (c : After-number) → c.number.result < length c.args.table.now.places.now
inside c = rw c.number.ensures (all_at _ 0 c.requires.readable.inside (omega arith))

-- after the test: the symbol that it is about
abbrev image : After-is_object_below → Image
image c = let s = c.args in image_of s.table.now.bytes.now s.table.now.places.now s.names.now.bytes.now s.names.now.places.now s.names.now.lengths.now

abbrev here : After-is_object_below → ℕ
here c = get_or c.args.part.now (c.loop-j.j - 1) 0

is : (c : After-is_object_below) → c.record-y.result ≡ (image c).symbol (here c)
is c = c.record-y.ensures ∙ ap (image c).symbol c.number.ensures

tested : (c : After-is_object_below) → object_below c.loop-j.low ((image c).symbol (here c)) ≡ c.is_object_below.result
tested c = sym (c.is_object_below.ensures ∙ ap (object_below c.loop-j.low) (is c))

turn : (c : After-is_object_below) → let g = image c in let l = c.loop-j in let y = g.symbol (here c) in let rest = reverse (take (l.j - 1) c.args.part.now) in
    lowered g l.low (reverse (take l.j c.args.part.now)) ≡ cond (object_below l.low y) (cond (is_linker_object (g.name y.name)) (lowered g y.address rest) l.low) (lowered g l.low rest)
turn c = lower_turn (image c) c.loop-j.low c.args.part.now c.loop-j.j c.loop-j-test.true c.loop-j.auto.j

named : (c : After-is_linker_generated_object) → let a = (goal.at.After-is_linker_generated_object c).After-is_object_below in is_linker_object ((image a).name ((image a).symbol (here a)).name) ≡ c.is_linker_generated_object.result
named c =
    let a = (goal.at.After-is_linker_generated_object c).After-is_object_below in
    sym (c.is_linker_generated_object.ensures ∙ ap is_linker_object (c.name_at.ensures ∙ ap (image a).name (c.from-k.ensures ∙ ap (λ (y : Symbol). y.name) (is a))))

pub record-y-requires : goal.record-y-requires
record-y-requires c = held _ _ c.requires.readable.whole _ (inside (goal.at.record-y-requires c).After-number)

pub name_at-requires : goal.name_at-requires
name_at-requires c =
    let p = c.requires in
    name_held _ _ _ p.names.names _
    (omega (arith, c.from-k.ensures, ap (λ (y : Symbol). y.name) c.record-y.ensures, p.names.named _ (inside (goal.at.name_at-requires c).After-number)))

pub loop-j-preserved-then-is_linker_generated_object : goal.loop-j-preserved-then-is_linker_generated_object
loop-j-preserved-then-is_linker_generated_object c =
    let l = c.loop-j in
    let a = (goal.at.loop-j-preserved-then-is_linker_generated_object c).After-is_object_below in
    let n = named (goal.at.loop-j-preserved-then-is_linker_generated_object c).After-is_linker_generated_object in
    let h : (symbol_of c.args.table.now.bytes.now c.args.table.now.places.now (here a)).address < l.low = object_below_lem l.low ((image a).symbol (here a)) (tested a ∙ c.if-is_object_below.true) in
    let e = ap (λ (y : Symbol). y.address) (is a) in (
      omega (arith, h, e, l.invariant.0),
      ap (λ (m : ℕ). lowered (image a) m (reverse (take (l.j - 1) c.args.part.now))) e
          ∙ sym (turn a ∙ rw (tested a ∙ c.if-is_object_below.true, n ∙ c.if-is_linker_generated_object.true)) ∙ l.invariant.1,
    )

pub returns-else-is_linker_generated_object : goal.returns-else-is_linker_generated_object
returns-else-is_linker_generated_object c =
    let l = c.loop-j in
    let a = (goal.at.returns-else-is_linker_generated_object c).After-is_object_below in
    let n = named (goal.at.returns-else-is_linker_generated_object c).After-is_linker_generated_object in
    record { is = sym (turn a ∙ rw (tested a ∙ c.if-is_object_below.true, n ∙ c.if-is_linker_generated_object.false)) ∙ l.invariant.1; small = l.invariant.0 }

pub loop-j-preserved : goal.loop-j-preserved
loop-j-preserved c =
    let l = c.loop-j in
    let a = (goal.at.loop-j-preserved c).After-is_object_below in
    (l.invariant.0, sym (turn a ∙ rw (tested a ∙ c.if-is_object_below.false)) ∙ l.invariant.1)

pub returns : goal.returns
returns c =
    let l = c.loop-j in
    record { is = sym (lower_end _ l.low c.args.part.now l.j (omega arith)) ∙ l.invariant.1; small = l.invariant.0 }
