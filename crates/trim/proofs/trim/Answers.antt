-- `trim::trim` meets its contract: the three passes one after another, each on what the one before it left.
use mathlib.Core.Path.{sym, ◌∙◌}
use mathlib.Core.List.{List}
use Prim.Native.Nat.{ℕ}
use Rattle.lists.specs.Outcome.{◌>>=◌}
use Rattle.obj.proofs.Errors.{same_err}
use Rattle.obj.specs.declared.Split.{Split}
use Rattle.sections.specs.Image.{image_in}
use Rattle.sections.proofs.Kept.{kept_heads}
use Rattle.splits.specs.Table.{ends_rows}
use Rattle.trim.specs.Trim.{falls_of, carry_from, cut_from, trimmed}
use Rattle.trim.proofs.Answers.{seen-stops, seen_goes}
use Rattle.trim.specs.Lent.{sections_in}
use Rattle.splits.proofs.Lent.{ends_still}
use Rattle.trim.proofs.trim.Goals as goal

pub invariant_of-tables-clause-asks : goal.invariant_of-tables-clause-asks
invariant_of-tables-clause-asks c =
    let p = c.requires in
    record { tables = p.0; sound = p.1; headed = kept_heads _ _ _ _ _ p.2 }

pub find_falls-requires : goal.find_falls-requires
find_falls-requires c =
    let p = c.requires in
    let e = c.columns.ensures in
    rw (e.columns, e.count) (p.3, p.4)

pub returns-in_err-find_falls-clause-rows : goal.returns-in_err-find_falls-clause-rows
unfolding trimmed
returns-in_err-find_falls-clause-rows c =
    let a = c.args in
    let g = image_in a.obj.now in
    let sections = sections_in a.obj.now a.image.now in
    let table = ends_rows a.table.now in
    let next = λ (falls : List ℕ). carry_from 0 falls table >>= λ fallen. cut_from g sections sections.count 0 fallen in
    let e = c.columns.ensures in
    let found = rw (e.columns, e.count) at c.find_falls.ensures in
    rw (same_err c.from_residual.result c.find_falls.result c.from_residual.ensures.1 c.in_err-find_falls.was)
    (seen-stops _ _ (falls_of g sections.head table) next found table c.in_err-find_falls.was)

pub returns-in_err-carry_out-clause-rows : goal.returns-in_err-carry_out-clause-rows
unfolding trimmed
returns-in_err-carry_out-clause-rows c =
    let a = c.args in
    let g = image_in a.obj.now in
    let sections = sections_in a.obj.now a.image.now in
    let table = ends_rows a.table.now in
    let next = λ (falls : List ℕ). carry_from 0 falls table >>= λ fallen. cut_from g sections sections.count 0 fallen in
    let e = c.columns.ensures in
    let found = rw (e.columns, e.count) at c.find_falls.ensures in
    rw (same_err c.from_residual-in_err-carry_out.result c.carry_out.result c.from_residual-in_err-carry_out.ensures.1 c.in_err-carry_out.was)
    (seen-stops _ _ _ (λ (fallen : List Split). cut_from g sections sections.count 0 fallen) c.carry_out.ensures.rows _ c.in_err-carry_out.was
    ∙ sym (seen_goes _ _ (falls_of g sections.head table) next found c.in_ok-find_falls.was))

pub returns-clause-rows : goal.returns-clause-rows
unfolding trimmed
returns-clause-rows c =
    let a = c.args in
    let g = image_in a.obj.now in
    let sections = sections_in a.obj.now a.image.now in
    let table = ends_rows a.table.now in
    let next = λ (falls : List ℕ). carry_from 0 falls table >>= λ fallen. cut_from g sections sections.count 0 fallen in
    let e = c.columns.ensures in
    let found = rw (e.columns, e.count) at c.find_falls.ensures in
    c.cut_sections.ensures.rows
    ∙ sym (seen_goes _ _ _ (λ (fallen : List Split). cut_from g sections sections.count 0 fallen) c.carry_out.ensures.rows c.in_ok-carry_out.was)
    ∙ sym (seen_goes _ _ (falls_of g sections.head table) next found c.in_ok-find_falls.was)

pub returns-clause-others : goal.returns-clause-others
returns-clause-others c = ends_still c.carry_out.ensures.others c.cut_sections.ensures.others
