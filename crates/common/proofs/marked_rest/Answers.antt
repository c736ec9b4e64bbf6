-- `common::marked_rest` meets its contract: bit 32 is set, or the row is not marked. Assumes nothing.
use Rattle.common.proofs.Marking.{mark_hit, mark_miss}
use Rattle.common.proofs.marked_rest.Goals as goal

pub returns-then-section_of-from : goal.returns-then-section_of-from
returns-then-section_of-from c =
    let a = c.args in
    λ end unit. mark_hit a.from.section a.from.address a.ystart end unit a.yrest (rw c.section_of.ensures at c.if-section_of-from.true)

pub returns : goal.returns
returns c =
    let a = c.args in
    λ end unit. mark_miss a.from.section a.from.address a.ystart end unit a.yrest (rw c.section_of.ensures at c.if-section_of-from.false)
