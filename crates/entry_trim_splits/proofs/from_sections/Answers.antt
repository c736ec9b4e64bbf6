-- `entry_trim_splits::from_sections` meets its contract. Sections that are refused are the answer; else the arrays have their places and those of their bytes, and the symbols
-- are asked with them. Assumes nothing.
use mathlib.Core.Path.{refl, sym}
use lib.ListN.{length}
use Rattle.obj.proofs.Errors.{is_err}
use Rattle.stage_sections.proofs.Laws.{heads_held, sections_kept, place_same}
use Rattle.stage_splits.proofs.Laws.{gives_as, gives_stops, gives_goes}
use Rattle.entry_trim_splits.specs.Entry.{from_sections}
use Rattle.entry_trim_splits.proofs.Laws.{sections_as}
use Rattle.entry_trim_splits.proofs.from_sections.Goals as goal

pub returns-in_err-headed-clause-gives : goal.returns-in_err-headed-clause-gives
unfolding from_sections
returns-in_err-headed-clause-gives c = rw (is_err _ c.from_residual.ensures.1) (gives_stops _ c.in_err-headed.ensures.said refl)

pub from_symbols-requires : goal.from_symbols-requires
from_symbols-requires c =
    let a = c.args in
    let t = a.lent.now in
    let k = c.in_ok-headed.ensures in
    let h = k.tables in
    let lengths = a.names.now.lengths.now in (
      c.requires,
      rw (h.heads.bytes, h.heads.places, h.image_bytes, h.image_places) (record {
        all = heads_held lengths t.section_places.now t.image.now t.sections.now (sym k.said);
        kept = sections_kept lengths t.section_places.now t.image.now t.sections.now (sym k.said) _ c.requires.paired;
      }),
    )

pub returns-clause-gives : goal.returns-clause-gives
unfolding from_sections
returns-clause-gives c =
    let a = c.args in
    let n = a.names.now in
    let t = a.lent.now in
    let k = c.in_ok-headed.ensures in
    let h = k.tables in
    gives_goes (sym k.said)
    (gives_as
    (sections_as n.bytes.now n.places.now n.lengths.now t.sections.now t.image.now _ _ t.section_places.now t.symbols.now t.splits.now
    (length a.output.now.splits.now) h.heads.places
    (λ i j. rw h.image_places (place_same n.lengths.now t.section_places.now t.image.now t.sections.now (sym k.said) i j)))
    (rw (h.heads.bytes, h.image_bytes) at c.from_symbols.ensures.gives))
