-- `piece_sweep::pass` meets its contract. Invariant: what is left of the sweep, with the farthest of the pieces passed, is the whole.
-- Assumes nothing.
use mathlib.Core.Path.{◌≡◌, sym, ap, subst, ◌∙◌}
use mathlib.Core.List.{List, map}
use Prim.Native.Nat.{ℕ, ◌+◌, ◌<◌}
use lib.ListN.{length, get_or, drop}
use Rattle.lists.specs.Sort.{All}
use Rattle.lists.proofs.All.{all_at, all_first, all_rest}
use Rattle.obj.specs.Parts.{Part}
use Rattle.piece_records.specs.Records.{part_at, Lying}
use Rattle.piece_order.specs.Order.{part_in}
use Rattle.piece_sweep.specs.Sweep.{unequal, farther, sweep_from, sweep}
use Rattle.piece_sweep.proofs.Laws.{sweep-none, sweep_hit, sweep_miss, sweep_ended}
use Rattle.piece_sweep.proofs.pass.Goals as goal
use Rattle.piece_sweep.proofs.pass.Goals.{After-from-in-loop-i}

-- the next number is that of a piece, which lies whole in the bytes
below : (c : After-from-in-loop-i) → c.from-in-loop-i.result < length c.args.starts.now
below c =
    let some = subst (λ (l : List ℕ). All (λ k. k < length c.args.starts.now) l) c.in-Some.ensures.cases.0 c.requires.1 in
    subst (λ (k : ℕ). k < length c.args.starts.now) (sym c.from-in-loop-i.ensures) (all_at c.loop-i.i-index 0 (all_rest some) c.loop-i-test.true)

next-lies : (c : After-from-in-loop-i) → Lying c.args.b.now (get_or c.args.starts.now c.from-in-loop-i.result 0)
next-lies c = c.requires.0.each c.from-in-loop-i.result (below c)

-- .. and is the one that the order names
next_is : (c : After-from-in-loop-i) → let a = c.args in
    unequal (part_at a.b.now c.loop-i.far) (part_in a.b.now a.starts.now (get_or c.in-Some.later.now c.loop-i.i-index 0))
    ≡ unequal (part_at a.b.now c.loop-i.far) (part_in a.b.now a.starts.now c.from-in-loop-i.result)
next_is c = ap (λ (k : ℕ). unequal (part_at c.args.b.now c.loop-i.far) (part_in c.args.b.now c.args.starts.now k)) (sym c.from-in-loop-i.ensures)

pub loop-i-init : goal.loop-i-init
unfolding sweep
loop-i-init c =
    let a = c.args in
    let g = part_in a.b.now a.starts.now in
    let order_is = c.in-Some.ensures.cases.0 in
    let first = all_first (subst (λ (l : List ℕ). All (λ k. k < length a.starts.now) l) order_is c.requires.1) in (
      c.requires.0.each c.from.result (subst (λ (k : ℕ). k < length a.starts.now) (sym c.from.ensures) first),
      ap (λ (k : ℕ). sweep_from (g k) (map g c.in-Some.later.now)) c.from.ensures ∙ sym (ap (λ (l : List ℕ). sweep (map g l)) order_is),
    )

pub bounds-starts-from-in-loop-i : goal.bounds-starts-from-in-loop-i
bounds-starts-from-in-loop-i c = below (goal.at.bounds-starts-from-in-loop-i c).After-from-in-loop-i

pub is_unequal-requires : goal.is_unequal-requires
is_unequal-requires c = (c.loop-i.invariant.0, next-lies (goal.at.is_unequal-requires c).After-from-in-loop-i)

pub returns-then-is_unequal : goal.returns-then-is_unequal
returns-then-is_unequal c =
    let l = c.loop-i in
    let a = c.args in
    sym (sym l.invariant.1 ∙ sweep_hit (part_in a.b.now a.starts.now) c.in-Some.later.now (part_at a.b.now l.far) l.i-index c.loop-i-test.true
    (next_is (goal.at.returns-then-is_unequal c).After-from-in-loop-i ∙ sym c.is_unequal.ensures ∙ c.if-is_unequal.true))

pub farther-far-requires : goal.farther-far-requires
farther-far-requires c = (c.loop-i.invariant.0, next-lies (goal.at.farther-far-requires c).After-from-in-loop-i)

pub loop-i-preserved : goal.loop-i-preserved
loop-i-preserved c =
    let l = c.loop-i in
    let a = c.args in
    let g = part_in a.b.now a.starts.now in
    let f = c.farther-far.ensures in
    let more = map g (drop (l.i-index + 1) c.in-Some.later.now) in (
      f.lies,
      ap (λ (p : Part). sweep_from p more) (f.is ∙ ap (λ (k : ℕ). farther (part_at a.b.now l.far) (g k)) c.from-in-loop-i.ensures)
          ∙ sym (sweep_miss g c.in-Some.later.now (part_at a.b.now l.far) l.i-index c.loop-i-test.true
          (next_is (goal.at.loop-i-preserved c).After-from-in-loop-i ∙ sym c.is_unequal.ensures ∙ c.if-is_unequal.false))
          ∙ l.invariant.1,
    )

pub returns : goal.returns
returns c =
    let l = c.loop-i in
    let a = c.args in
    sym (sym l.invariant.1 ∙ sweep_ended (part_in a.b.now a.starts.now) c.in-Some.later.now (part_at a.b.now l.far) l.i-index c.loop-i-test.false)

pub returns-in_default : goal.returns-in_default
returns-in_default c = sym (sweep-none (part_in c.args.b.now c.args.starts.now) c.args.order.now c.in_default.ensures.cases)
