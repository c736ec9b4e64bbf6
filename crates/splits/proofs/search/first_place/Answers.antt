-- `splits::first_place` meets its contract. Invariant: none of the numbers from `from` up to this one passes.
-- Assumes nothing.
use Rattle.std.proofs.Common.{◌≡◌, ◌∙◌, sym, false, arith}
use Rattle.splits.proofs.Blocks.{each_more}
use Rattle.splits.proofs.search.first_place.Goals as goal

pub returns-then-passes : goal.returns-then-passes
returns-then-passes g c = λ p yes.
    let l = c.loop-k in
    record {
      past = l.invariant.0;
      small = c.loop-k-test.true;
      none = l.invariant.1 p yes;
      passes = sym (yes l.k _ c.loop-k-test.true c.passes.ensures) ∙ c.if-passes.true;
    }

pub loop-k-preserved : goal.loop-k-preserved
loop-k-preserved g c =
    let l = c.loop-k in (
      omega arith,
      λ p yes. each_more (λ k. p k ≡ false) c.args.from l.k (l.invariant.1 p yes) (sym (yes l.k _ c.loop-k-test.true c.passes.ensures) ∙ c.if-passes.false),
    )

pub returns : goal.returns
returns g c = λ p yes k m h. c.loop-k.invariant.1 p yes k m (omega arith)
