-- `common::common_start` meets its contract: the given start, or that of the first common row. Assumes nothing.
use mathlib.Core.Path.{ap, ◌∙◌}
use Rattle.lists.specs.Outcome.{accepted}
use Rattle.splits.specs.Table.{rows_of}
use Rattle.common.specs.declared.Bss.{Bss}
use Rattle.common.specs.Common.{common_start, start_meaning}
use Rattle.common.specs.Sections.{bss_numbers, first_of, given_of}
use Rattle.common.proofs.Laws.{given_is, first_is}
use Rattle.common.proofs.common_start.Goals as goal

pub returns-in-Some : goal.returns-in-Some
unfolding common_start
returns-in-Some c =
    let a = c.args in
    rw c.in-Some.is (ap start_meaning c.given_start.ensures ∙ ap (λ (b : Bss). start_meaning (given_of c.in-Some.address b)) c.by_name-bss.ensures ∙ given_is c.in-Some.address (bss_numbers a.names.now a.heads.now))

pub returns-in-None : goal.returns-in-None
unfolding common_start
returns-in-None c =
    let a = c.args in
    let l = rows_of a.splits.now in
    rw c.in-None.is
    (ap accepted
    (c.common_bss_start.ensures ∙ ap (λ (b : Bss). first_of b l) c.by_name-bss.ensures ∙ first_is (bss_numbers a.names.now a.heads.now) l))
