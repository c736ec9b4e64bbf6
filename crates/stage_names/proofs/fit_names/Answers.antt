-- 1, then 2 at the first name that does not fit.
use Rattle.std.proofs.Common.{◌∙◌, sym, ap, arith}
use Rattle.obj.specs.Answers.{meaning}
use Rattle.stage_names.proofs.Fits.{fitting, fits_on, fit_cut, fit_beyond, fit_all}
use Rattle.stage_names.proofs.fit_names.Goals as goal

pub returns-then-ends-ne0 : goal.returns-then-ends-ne0
returns-then-ends-ne0 c =
    let a = c.args in
    ap meaning c.refuse.ensures ∙ fit_cut a.most.names a.most.bytes a.ends.now c.if-ends-ne0.true c.place_of.ensures

pub loop-k-init : goal.loop-k-init
loop-k-init c = let a = c.args in fitting a.most.names a.most.bytes a.ends.now

pub overflow_cast-k : goal.overflow_cast-k
overflow_cast-k c = omega (arith, c.loop-k.invariant.low, c.requires)

pub returns-then-is_beyond : goal.returns-then-is_beyond
returns-then-is_beyond c =
    let a = c.args in
    ap meaning c.refuse-then-is_beyond.ensures
    ∙ fit_beyond a.most.names a.most.bytes a.ends.now c.if-ends-ne0.false c.loop-k.invariant c.loop-k-test.true (sym c.is_beyond.ensures ∙ c.if-is_beyond.true)

pub loop-k-preserved : goal.loop-k-preserved
loop-k-preserved c =
    let a = c.args in
    fits_on a.most.names a.most.bytes a.ends.now c.loop-k.invariant c.loop-k-test.true (sym c.is_beyond.ensures ∙ c.if-is_beyond.false)

pub returns : goal.returns
returns c = let a = c.args in fit_all a.most.names a.most.bytes a.ends.now c.if-ends-ne0.false c.loop-k.invariant c.loop-k-test.false
