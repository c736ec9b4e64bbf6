-- `entry_resolve_link_order::checked` meets its contract: a refused table is the answer; else the arrays hold the names, the heads have their places, and the splits are asked.
use mathlib.Core.Path.{refl, sym, ap, ◌∙◌}
use mathlib.Core.List.{List}
use Prim.Native.Nat.{ℕ}
use Rattle.std.specs.Prelude.{Err}
use lib.ListN.{length}
use Rattle.lists.proofs.Outcomes.{then_goes}
use Rattle.obj.specs.Answers.{meaning}
use Rattle.name_table.specs.Stored.{stage_lengths}
use Rattle.name_table.proofs.Laws.{length-stage_lengths, names_passed}
use Rattle.stage_tables.specs.StageTables.{sections_check}
use Rattle.order.proofs.Stage.{resolves_as}
use Rattle.entry_resolve_link_order.specs.Entry.{resolve_of}
use Rattle.entry_resolve_link_order.proofs.Laws.{refused_table, sections_taken, from_names_as}
use Rattle.entry_resolve_link_order.proofs.Refusals.{low_names, low_sections}
use Rattle.entry_resolve_link_order.proofs.checked.Goals as goal

pub returns-in_err-check : goal.returns-in_err-check
unfolding resolve_of
returns-in_err-check c =
    refused_table _ _ _ _ _ c.from_residual.result c.check.ensures.said c.in_err-check.was c.from_residual.ensures.1 (low_names c.args.lent.now.name_ends.now c.args.lent.now.name_bytes.now)

pub returns-in_err-heads : goal.returns-in_err-heads
unfolding resolve_of
returns-in_err-heads c =
    let t = c.args.lent.now in
    let f = c.from_residual-in_err-heads in
    resolves_as (then_goes c.check.ensures.said _ (ap meaning c.in_ok-check.was))
    (refused_table _ _ _ _ (Err _) f.result (c.in_err-heads.ensures.said ∙ ap (λ (l : List ℕ). sections_check 64 l t.sections.now) c.names-names.ensures.lengths) refl f.ensures.1
    (low_sections (stage_lengths t.name_ends.now t.name_bytes.now) t.sections.now))

pub with_splits-requires : goal.with_splits-requires
with_splits-requires c =
    let t = c.args.lent.now in
    let names = c.names-names in
    sections_taken names.result.lengths.now t.sections.now names.result.bytes.now names.result.places.now c.in_ok-heads.ensures names.ensures.readable
    (rw (names.ensures.lengths, length-stage_lengths) (names_passed 4096 t.name_ends.now t.name_bytes.now (sym c.check.ensures.said ∙ ap meaning c.in_ok-check.was)).few)

pub returns : goal.returns
returns c =
    let t = c.args.lent.now in
    let names = c.names-names.ensures in
    let k = c.in_ok-heads.ensures in
    let passed = sym c.check.ensures.said ∙ ap meaning c.in_ok-check.was in
    from_names_as t.name_ends.now t.name_bytes.now _ _ _ _ t.sections.now t.splits.now t.units.now (length c.args.out.now) _ _ _ _ (c.check.ensures.stored passed) passed
    (ap (λ (l : List ℕ). sections_check 64 l t.sections.now) (sym names.lengths) ∙ sym k.said) names.bytes names.places names.lengths k.table.places
    (rw k.table.bytes at c.with_splits.ensures)
