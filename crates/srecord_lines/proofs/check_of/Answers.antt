-- `srecord_lines::check_of` meets its contract: the sum of the address's bytes and of the data's, with the count.
use native.Mathlib.Omega.{arith}
use mathlib.Core.Path.{ap, ◌∙◌}
use Rattle.srecords.specs.Lines.{sum}
use Rattle.srecord_lines.proofs.Laws.{sum-counted, sum_address_is}
use Rattle.srecord_lines.proofs.check_of.Goals as goal

pub returns : goal.returns
returns c =
    let a = c.args in
    let s = sum-counted a.address a.bytes.now in
    let t = c.sum_of.ensures.is ∙ ap sum c.to_be_bytes.ensures ∙ sum_address_is a.address in
    omega (arith, s, t, c.sum_of-2.ensures.is)
