-- `splits::first_by_blocks` meets its contract. Invariant: whole blocks are left, and no number of those before passes.
-- Assumes nothing.
use Rattle.std.proofs.Common.{◌≡◌, ◌-◌, ◌%◌, ◌≤◌, ◌<◌, ℕ, false, subst, arith}
use Rattle.splits.proofs.Blocks.{each_on, first_behind}
use Rattle.splits.proofs.search.first_by_blocks.Goals as goal
use Rattle.splits.proofs.search.first_by_blocks.Goals.{else-loop-i-test, then-loop-i-test+else-whole-i-gt32, then-may_hold+in_default, else-may_hold}

pub loop-i-init : goal.loop-i-init
loop-i-init g c = (omega arith, omega arith, omega arith, λ p yes no k m h. absurd (omega arith))

pub may_hold-requires : goal.may_hold-requires
may_hold-requires g c = c.requires.blocks _ (omega arith)

pub overflow_add-i : goal.overflow_add-i
overflow_add-i g c = omega arith

pub first_place-requires : goal.first_place-requires
first_place-requires g c = λ k h. c.requires.asked k (omega arith)

pub returns-in-Some : goal.returns-in-Some
returns-in-Some g c = λ p yes no.
    let l = c.loop-i in
    let f = c.in-Some.ensures p (λ k r h q. yes k r (omega arith) q) in
    record {
      past = omega (arith, f.past);
      small = omega (arith, f.small);
      none = each_on (λ k. p k ≡ false) c.args.at l.i c.in-Some.k (l.invariant.3 p yes no) f.none;
      passes = f.passes;
    }

pub loop-i-preserved : goal.loop-i-preserved
loop-i-preserved g c = (
  omega arith,
  omega arith,
  omega arith,
  λ p yes no.
      let l = c.loop-i in
      let low = l.invariant.3 p yes no in
      elim c.if-may_hold.branch [
        | then-may_hold+in_default w ↦ each_on (λ k. p k ≡ false) c.args.at l.i _ low (λ k m h. w.in_default.ensures p (λ j r q z. yes j r (omega arith) z) k m (omega arith))
        | else-may_hold w ↦ each_on (λ k. p k ≡ false) c.args.at l.i _ low
            (λ k m h. no l.i (omega arith) (subst (λ b. goal.H-post g c.args.may_hold l.i b) w.if-may_hold.false c.may_hold.ensures) k m (omega arith))
      ],
)

-- after the last block there is no further step
pub returns : goal.returns
returns g c = λ p yes no.
    let a = c.args in
    let l = c.loop-i in
    let low = l.invariant.3 p yes no in
    let whole = a.count - (a.count - a.at) % 32 in
    let none : (k : ℕ) → a.at ≤ k → k < whole → p k ≡ false = elim c.loop-i-test.branch [
      | else-loop-i-test w ↦ λ k m h. low k m (omega arith)
      | then-loop-i-test+else-whole-i-gt32 w ↦ elim w.if-may_hold.branch [
        | then-may_hold+in_default v ↦ each_on (λ k. p k ≡ false) a.at l.i whole low (λ k m h. v.in_default.ensures p (λ j r q z. yes j r (omega arith) z) k m (omega arith))
        | else-may_hold v ↦ each_on (λ k. p k ≡ false) a.at l.i whole low
            (λ k m h. no l.i (omega arith) (subst (λ b. goal.H-post g a.may_hold l.i b) v.if-may_hold.false w.may_hold.ensures) k m (omega arith))
      ]
    ] in
    first_behind p a.at whole a.count _ (omega arith) none (c.first_place-2.ensures p yes)
