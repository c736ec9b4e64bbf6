-- `entry_validate_splits::checked` meets its contract. Names or sections that are refused are the answer; else the arrays have the names' lengths, the places of the sections are at the front of
-- the column, and the symbols are asked with them. Assumes nothing.
use Prim.Native.Nat.{ℕ}
use mathlib.Core.Path.{refl, ap, ◌∙◌}
use mathlib.Core.List.{List}
use Rattle.lists.proofs.Outcomes.{then_stops, then_goes}
use Rattle.obj.specs.Answers.{meaning}
use Rattle.obj.proofs.Errors.{is_err, same_err}
use Rattle.stage_tables.specs.StageTables.{sections_check}
use Rattle.entry_validate_splits.specs.Entry.{validate_of}
use Rattle.entry_validate_splits.proofs.Laws.{symbols_as}
use Rattle.entry_validate_splits.proofs.checked.Goals as goal

pub returns-in_err-check : goal.returns-in_err-check
unfolding validate_of
returns-in_err-check c =
    rw (same_err c.from_residual.result c.check.result c.from_residual.ensures.1 c.in_err-check.was)
    (then_stops c.check.ensures.said _ (ap meaning c.in_err-check.was))

pub returns-in_err-heads : goal.returns-in_err-heads
unfolding validate_of
returns-in_err-heads c =
    let said = c.in_err-heads.ensures.said ∙ ap (λ (l : List ℕ). sections_check 64 l c.args.lent.now.sections.now) c.names-names.ensures.lengths in
    rw (is_err _ c.from_residual-in_err-heads.ensures.1) (then_stops said _ refl ∙ then_goes c.check.ensures.said _ (ap meaning c.in_ok-check.was))

pub with_symbols-requires : goal.with_symbols-requires
with_symbols-requires c = c.in_ok-heads.ensures.table.held

pub returns : goal.returns
unfolding validate_of
returns c =
    let t = c.args.lent.now in
    let k = c.in_ok-heads.ensures in
    let said = k.said ∙ ap (λ (l : List ℕ). sections_check 64 l t.sections.now) c.names-names.ensures.lengths in
    (rw k.table.bytes at c.with_symbols.ensures)
    ∙ symbols_as t.name_ends.now t.name_bytes.now t.sections.now t.symbols.now t.splits.now _ _ c.names-names.ensures.lengths k.table.places
    ∙ then_goes said _ refl
    ∙ then_goes c.check.ensures.said _ (ap meaning c.in_ok-check.was)
