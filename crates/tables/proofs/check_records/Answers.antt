-- A record is refused or not as the definition says of it; the laws of Loops carry that to the whole table.
use Rattle.obj.proofs.Errors.{is_err}
use Rattle.tables.proofs.Loops.{going, stops, goes_on, passes_all}
use Rattle.tables.proofs.check_records.Goals as goal

pub loop-k-init : goal.loop-k-init
loop-k-init g c = λ fault h. going

pub returns-in_err-check : goal.returns-in_err-check
returns-in_err-check g c = λ fault h.
    rw (is_err _ c.from_residual.ensures.1) (stops (c.loop-k.invariant fault h) c.loop-k-test.true (h _ _ c.loop-k-test.true (c.in_err-check.ensures)))

pub loop-k-preserved : goal.loop-k-preserved
loop-k-preserved g c = λ fault h. goes_on (c.loop-k.invariant fault h) c.loop-k-test.true (h _ _ c.loop-k-test.true (c.in_ok-check.ensures))

pub returns : goal.returns
returns g c = λ fault h. passes_all (c.loop-k.invariant fault h) c.loop-k-test.false
