-- `srecord_lines::sum_of` meets its contract: std's sum is the definition's, and at most 250 bytes are below 64,000.
-- Assumes nothing.
use native.Mathlib.Omega.{arith}
use mathlib.Core.Path.{◌≡◌, ◌∙◌}
use Rattle.std.specs.Prelude.{sum_by}
use Rattle.std.proofs.Common.{rules}
use Rattle.std.proofs.iter.runs.Sources.{sums}
use Rattle.srecord_lines.proofs.Laws.{sum_is, sum_small}
use Rattle.srecord_lines.proofs.sum_of.Goals as goal

pub sum-requires-clause-fits : goal.sum-requires-clause-fits
sum-requires-clause-fits c = search (rules, sums)

pub returns : goal.returns
returns c =
    let b = c.args.bytes.now in
    let e : c.sum.result ≡ sum_by (λ x. x) b = search (rules, sums) in
    let is = e ∙ sum_is b in
    record { is = is; small = omega (arith, is, sum_small b (λ i. (c.type_inv.bytes i).fits), c.requires) }
