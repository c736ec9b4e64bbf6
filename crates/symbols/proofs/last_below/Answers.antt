-- `symbols::last_below`: what is kept to before j is the symbol at j - 1, if it passes, and else what is kept to before that.
use Rattle.std.proofs.Common.{rules, ◌≡◌, ℕ, ◌-◌, cond, length, None, Some, get_or, refl, sym, ap, ◌∙◌, arith}
use mathlib.Core.List.{List}
use Rattle.lists.specs.Rows.{keep_if, first_in}
use Rattle.lists.specs.Sort.{at_least}
use Rattle.lists.proofs.Between.{part-some}
use Rattle.symbol_order.specs.Order.{symbol_of, key, key_at}
use Rattle.symbol_order.proofs.Parts.{held_at, order_sorted, order_readable}
use Rattle.symbols.specs.Ranges.{sized_unstripped, last_or, last_below}
use Rattle.symbols.proofs.Laws.{last_from, last_none, last_from_lem}
use Rattle.symbols.proofs.Parts.{below-part, section_later, section_begun}
use Rattle.symbols.proofs.last_below.Goals as goal
use Rattle.symbols.proofs.last_below.Goals.{After-first_at-end, After-record-y, After-is_sized_unstripped}

-- the search ends at the first place of the address
ends : (c : After-first_at-end)
    → let a = c.args in
    c.first_at-end.result ≡ first_in (at_least (key_at a.b.now a.places.now) c.key_of.result) a.order.now
ends c = c.first_at-end.ensures.first _ (record { sorted = order_sorted _ _ _ c.requires; gives = λ i r h e. search (rules, e) })

pub loop-j-init : goal.loop-j-init
loop-j-init c =
    let a = c.args in
    ap (λ (l : List ℕ). last_or None (keep_if (λ i. sized_unstripped a.objects (symbol_of a.b.now a.places.now i)) l))
    (part-some (key_at a.b.now a.places.now) 0 a.order.now (order_sorted _ _ _ c.requires) (key a.section 0) _ _ _ refl (ends c)
    ∙ below-part _ _ _ c.requires (λ j. (c.type_inv.b j).fits) a.section _ _ a.address (omega arith) c.key_of.ensures.is refl)

pub record-y-requires : goal.record-y-requires
record-y-requires c = held_at _ _ _ (order_readable _ _ _ c.requires) _ _ (omega (arith, c.first_at-end.ensures.small)) c.number-i.ensures

is_here : (c : After-record-y) → c.record-y.result ≡ symbol_of c.args.b.now c.args.places.now (get_or c.args.order.now (c.loop-j.j - 1) 0)
is_here c = c.record-y.ensures ∙ ap (symbol_of c.args.b.now c.args.places.now) c.number-i.ensures

pub returns-then-y-section : goal.returns-then-y-section
returns-then-y-section c =
    let h = section_later _ _ _ c.requires (λ j. (c.type_inv.b j).fits) c.args.section (c.loop-j.j - 1) _ (omega (arith, c.first_at-end.ensures.small)) (is_here (goal.at.returns-then-y-section c).After-record-y) c.if-y-section.true in
    sym (last_none _ _ _ c.loop-j.j (omega (arith, h))) ∙ c.loop-j.invariant

-- what is kept to before j, if the symbol at j - 1 passes the test or fails it
turn : (c : After-is_sized_unstripped)
    → let a = c.args in
    let kept = last_from (λ i. sized_unstripped a.objects (symbol_of a.b.now a.places.now i)) a.order.now (first_in (at_least (key_at a.b.now a.places.now) (key a.section 0)) a.order.now) in
    cond c.is_sized_unstripped.result (Some (get_or a.order.now (c.loop-j.j - 1) 0)) (kept (c.loop-j.j - 1))
    ≡ last_below (symbol_of a.b.now a.places.now) (length a.places.now) a.section a.objects a.address
turn c =
    let a = c.args in
    let test = λ (i : ℕ). sized_unstripped a.objects (symbol_of a.b.now a.places.now i) in
    let begun = first_in (at_least (key_at a.b.now a.places.now) (key a.section 0)) a.order.now in
    let r = is_here (goal.at.After-is_sized_unstripped c).After-record-y in
    let h = section_begun _ _ _ c.requires (λ j. (c.type_inv.b j).fits) a.section (c.loop-j.j - 1) _ (omega (arith, c.first_at-end.ensures.small)) r c.if-y-section.false in
    ap (λ t. cond t (Some (get_or a.order.now (c.loop-j.j - 1) 0)) (last_from test a.order.now begun (c.loop-j.j - 1))) (c.is_sized_unstripped.ensures ∙ ap (sized_unstripped a.objects) r)
    ∙ sym (last_from_lem test a.order.now begun c.loop-j.j (omega (arith, h)) (omega (arith, c.first_at-end.ensures.small)))
    ∙ c.loop-j.invariant

pub returns-then-is_sized_unstripped : goal.returns-then-is_sized_unstripped
returns-then-is_sized_unstripped c =
    let h = turn (goal.at.returns-then-is_sized_unstripped c).After-is_sized_unstripped in
    ap Some c.number-i.ensures ∙ (rw c.if-is_sized_unstripped.true at h)

pub loop-j-preserved : goal.loop-j-preserved
loop-j-preserved c =
    let h = turn (goal.at.loop-j-preserved c).After-is_sized_unstripped in
    rw c.if-is_sized_unstripped.false at h

pub returns : goal.returns
returns c = sym (last_none _ _ _ c.loop-j.j (omega arith)) ∙ c.loop-j.invariant
