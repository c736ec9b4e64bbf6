-- `entry_split_obj::checked` meets its contract. Names or sections that are refused are the answer; else the arrays have the names, the sections and the places of
-- their bytes, and the symbols are asked with them.
-- Assumes nothing.
use Rattle.obj.specs.Answers.{meaning}
use mathlib.Core.Path.{sym, ap, ◌∙◌}
use mathlib.Core.List.{List}
use Prim.Native.Nat.{ℕ}
use lib.ListN.{length}
use Rattle.pieces.proofs.Same.{lent_same}
use Rattle.name_table.proofs.Laws.{length-stage_lengths, names_passed}
use Rattle.stage_tables.specs.StageTables.{image_check}
use Rattle.stage_sections.proofs.Laws.{heads_held, sections_kept, place_same}
use Rattle.stage_walk.proofs.Lines.{gives_as, gives_stops, gives_goes}
use Rattle.obj.proofs.Errors.{is_err}
use Rattle.stage_walk.specs.Room.{within_ceilings}
use Rattle.entry_split_obj.specs.Entry.{split_obj_of}
use Rattle.entry_split_obj.proofs.Lines.{symbols_as}
use Rattle.entry_split_obj.proofs.checked.Goals as goal

pub returns-in_err-check : goal.returns-in_err-check
unfolding split_obj_of
returns-in_err-check c =
    gives_stops _ (is_err _ c.from_residual.ensures.1) c.in_err-check.ensures.said lent_same

pub returns-in_err-headed : goal.returns-in_err-headed
unfolding split_obj_of
returns-in_err-headed c =
    let t = c.args.lent.now in
    gives_goes (sym c.check.ensures.said ∙ ap meaning c.in_ok-check.was)
    (gives_stops _ (is_err _ c.from_residual-in_err-headed.ensures.1)
    (c.in_err-headed.ensures.said ∙ ap (λ (l : List ℕ). image_check 64 l t.section_places.now (length t.image.now) t.sections.now) c.names-names.ensures.lengths) lent_same)

pub with_symbols-requires : goal.with_symbols-requires
with_symbols-requires c =
    let t = c.args.lent.now in
    let names = c.names-names in
    let k = c.in_ok-headed.ensures in
    let h = k.tables in
    let lengths = names.result.lengths.now in (
      names.ensures.readable,
      rw (h.heads.bytes, h.heads.places, h.image_bytes, h.image_places) (record {
        all = heads_held lengths t.section_places.now t.image.now t.sections.now (sym k.said);
        kept = sections_kept lengths t.section_places.now t.image.now t.sections.now (sym k.said) _ names.ensures.readable.paired;
      }),
      rw (names.ensures.lengths, length-stage_lengths) (names_passed 4096 t.name_ends.now t.name_bytes.now (sym c.check.ensures.said ∙ ap meaning c.in_ok-check.was)).few,
    )

pub returns : goal.returns
unfolding split_obj_of
returns c =
    let t = c.args.lent.now in
    let names = c.names-names.ensures in
    let k = c.in_ok-headed.ensures in
    let h = k.tables in
    gives_goes (sym c.check.ensures.said ∙ ap meaning c.in_ok-check.was)
    (gives_goes (ap (λ (l : List ℕ). image_check 64 l t.section_places.now (length t.image.now) t.sections.now) (sym names.lengths) ∙ sym k.said)
    (gives_as
    (symbols_as t.name_ends.now t.name_bytes.now t.sections.now t.image.now t.section_places.now t.symbols.now t.relocs.now t.splits.now t.units.now (within_ceilings c.args.tables.now.room)
    _ _ _ _ _ names.bytes names.places names.lengths h.heads.places
    (λ n i. rw h.image_places (place_same c.names-names.result.lengths.now t.section_places.now t.image.now t.sections.now (sym k.said) n i)))
    (rw (h.heads.bytes, h.image_bytes) at c.with_symbols.ensures)))
