-- `common::next_bss` meets its contract. Assumes nothing.
use Rattle.std.proofs.Common.{rules, ◌≡◌, true, false}
use Rattle.std.proofs.lemmas.Iterator.{first_from_Range}
use lib.ListN.{length}
use Rattle.common.specs.Sections.{has_bss_name}
use Rattle.common.proofs.Laws.{first_found}
use Rattle.common.proofs.next_bss.Goals as goal

pub returns : goal.returns
returns c =
    let a = c.args in
    let p = has_bss_name a.sections.now.names a.sections.now.heads in
    first_found p (λ j. j) (length a.sections.now.heads.places.now) a.from c.find.result c.requires
    (first_from_Range _ _ _ c.find.result (λ k. p k ≡ true) (λ k. p k ≡ false) c.find.ensures.ran (λ x q z. search rules) (λ x q z. search rules))
