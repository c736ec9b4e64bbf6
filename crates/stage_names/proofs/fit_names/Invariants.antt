-- The loop of `stage_names::fit_names`: no name before k is beyond.
use Rattle.stage_names.proofs.Fits.{Fitting}
use Rattle.stage_names.proofs.fit_names.Given as goal

abbrev pub invariant-loop-k : goal.invariant-loop-k
invariant-loop-k l = Fitting l.most.names l.most.bytes l.ends l.k
