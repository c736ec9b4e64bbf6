-- Symbols that are refused are the answer; else the arrays have their places and their order, and the splits are asked with them.
use Rattle.std.proofs.Common.{List, ℕ, refl, sym, ap, length}
use Rattle.obj.proofs.Errors.{is_err}
use Rattle.obj.proofs.Laws.{length-stage_places}
use Rattle.sections.specs.Image.{image_of}
use Rattle.sections.specs.Sections.{sections_of}
use Rattle.tables.specs.Records.{sections_in}
use Rattle.gap_splits.specs.Answers.{ceilings}
use Rattle.names.specs.Listed.{names_in}
use Rattle.stage_tables.proofs.Laws.{table_passed}
use Rattle.stage_symbols.proofs.Laws.{symbols_sound}
use Rattle.stage_sections.proofs.Laws.{symbols_asked}
use Rattle.stage_gaps.specs.StageGaps.{from_splits}
use Rattle.entry_create_gap_splits.specs.Entry.{from_symbols}
use Rattle.stage_gaps.proofs.Laws.{gives_as, gives_stops, gives_goes}
use Rattle.entry_create_gap_splits.proofs.from_symbols.Goals as goal

pub returns-in_err-obj-clause-gives : goal.returns-in_err-obj-clause-gives
unfolding from_symbols
returns-in_err-obj-clause-gives c = rw (is_err _ c.from_residual.ensures.1) (gives_stops _ c.in_err-obj.ensures.said refl)

pub with_splits-requires : goal.with_splits-requires
with_splits-requires c =
    let a = c.args in
    let k = c.in_ok-obj.ensures in
    let o = k.asked in
    let q = c.requires in
    let names = length a.names.now.lengths.now in
    let heads = sections_in a.heads.now.bytes.now a.heads.now.places.now in (
      rw (o.names, o.heads, o.symbols.bytes, o.symbols.places, o.order) (record {
        tables = symbols_asked names heads a.lent.now.symbols.now (sym k.said) _ _ _ (sym q.0.paired) q.0.named;
        sound = rw length-stage_places (symbols_sound 4096 names heads a.lent.now.symbols.now (sym k.said));
        few = rw length-stage_places (table_passed 20 4096 a.lent.now.symbols.now _ (sym k.said)).1;
        names = q.0;
        headed = q.1;
      }),
      rw o.names q.2,
    )

pub returns-clause-gives : goal.returns-clause-gives
unfolding from_symbols
returns-clause-gives c =
    let a = c.args in
    let k = c.in_ok-obj.ensures in
    let o = k.asked in
    let n = a.names.now in
    let names = names_in n in
    let heads = sections_in a.heads.now.bytes.now a.heads.now.places.now in
    let sections = sections_of a.heads.now.bytes.now a.heads.now.places.now a.image.now.bytes.now a.image.now.places.now in
    gives_goes (sym k.said)
    (gives_as
    (ap
    (λ (l : List ℕ).
    from_splits n.lengths.now heads (image_of a.lent.now.symbols.now l n.bytes.now n.places.now n.lengths.now) sections (ceilings names a.most.names a.most.bytes) names a.lent.now.splits.now (length a.outputs.now.splits.now))
    o.symbols.places)
    (rw (o.names, o.heads, o.symbols.bytes) at c.with_splits.ensures.gives))
