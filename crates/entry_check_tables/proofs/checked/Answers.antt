-- Names or sections that are refused are the answer; else the arrays have the names' lengths, the places of the sections are at the front of the column, and the other tables are asked with
-- them.
use Rattle.std.proofs.Common.{◌∙◌, ap, arith, refl, List, ℕ, length}
use Rattle.lists.proofs.Outcomes.{then_stops, then_goes}
use Rattle.obj.specs.Answers.{meaning}
use Rattle.obj.proofs.Errors.{is_err, same_err}
use Rattle.tables.specs.declared.Counts.{Counts as Ceilings}
use Rattle.name_table.specs.NameTable.{names_check}
use Rattle.stage_tables.specs.StageTables.{image_check}
use Rattle.stage_tables.proofs.Laws.{taken_few, taken-count}
use Rattle.entry_check_tables.specs.Entry.{tables_of}
use Rattle.entry_check_tables.proofs.Laws.{below, symbols_as}
use Rattle.entry_check_tables.proofs.checked.Goals as goal

pub returns-in_err-check : goal.returns-in_err-check
unfolding tables_of
returns-in_err-check c =
    let t = c.args.lent.now in
    let said = c.check.ensures.said ∙ ap (λ (m : Ceilings). names_check m.names t.name_ends.now t.name_bytes.now) c.main_ceilings-most.ensures in
    rw (same_err c.from_residual.result c.check.result c.from_residual.ensures.1 c.in_err-check.was) (then_stops said _ (ap meaning c.in_err-check.was))

pub returns-in_err-heads : goal.returns-in_err-heads
unfolding tables_of
returns-in_err-heads c =
    let t = c.args.lent.now in
    let names = c.check.ensures.said ∙ ap (λ (m : Ceilings). names_check m.names t.name_ends.now t.name_bytes.now) c.main_ceilings-most.ensures in
    let sections = below _ _ _ _ _ c.in_err-heads.ensures.said (ap (λ (m : Ceilings). m.sections) c.main_ceilings-most.ensures)
    ∙ ap (λ (l : List ℕ). image_check 64 l t.section_places.now (length t.image.now) t.sections.now) c.names-names.ensures.lengths in
    rw (is_err _ c.from_residual-in_err-heads.ensures.1) (then_stops sections _ refl ∙ then_goes names _ (ap meaning c.in_ok-check.was))

pub with_symbols-requires : goal.with_symbols-requires
with_symbols-requires c =
    let k = c.in_ok-heads.ensures in
    let b = c.args.lent.now.sections.now in
    (k.table.held, omega (arith, taken-count 15 b k.table, taken_few 15 _ b _ k, ap (λ (m : Ceilings). m.sections) c.main_ceilings-most.ensures))

pub returns : goal.returns
unfolding tables_of
returns c =
    let t = c.args.lent.now in
    let k = c.in_ok-heads.ensures in
    let names = c.check.ensures.said ∙ ap (λ (m : Ceilings). names_check m.names t.name_ends.now t.name_bytes.now) c.main_ceilings-most.ensures in
    let sections = below _ _ _ _ _ k.said (ap (λ (m : Ceilings). m.sections) c.main_ceilings-most.ensures)
    ∙ ap (λ (l : List ℕ). image_check 64 l t.section_places.now (length t.image.now) t.sections.now) c.names-names.ensures.lengths in
    (rw k.table.bytes at c.with_symbols.ensures)
    ∙ symbols_as t.name_ends.now t.name_bytes.now t.sections.now t.symbols.now t.relocs.now t.splits.now t.units.now _ _ c.names-names.ensures.lengths k.table.places
    ∙ then_goes sections _ refl
    ∙ then_goes names _ (ap meaning c.in_ok-check.was)
