-- `entry_split_obj::with_symbols` meets its contract. A table that is refused is the answer; else the fronts of the columns have the places of its records, and the tables after it are asked
-- with them.
-- Assumes nothing.
use mathlib.Core.Path.{sym}
use Prim.Native.Nat.{◌/◌}
use lib.ListN.{length}
use Rattle.stage_tables.proofs.Laws.{table_passed, taken-count}
use Rattle.sections.specs.Sections.{sections_of}
use Rattle.tables.specs.Records.{sections_in}
use Rattle.obj.proofs.Errors.{is_err}
use Rattle.stage_walk.specs.Room.{within_ceilings}
use Rattle.entry_split_obj.specs.Lines.{from_symbols}
use Rattle.pieces.proofs.Same.{lent_same}
use Rattle.stage_walk.proofs.Lines.{gives_as, gives_stops, gives_goes}
use Rattle.entry_split_obj.proofs.Lines.{tables_as}
use Rattle.entry_split_obj.proofs.Passed.{relocs_taken}
use Rattle.stage_symbols.proofs.Laws.{symbols_sound}
use Rattle.stage_sections.proofs.Laws.{symbols_asked}
use Rattle.obj.proofs.Laws.{length-stage_places}
use Rattle.entry_split_obj.proofs.with_symbols.Goals as goal

pub returns-in_err-obj : goal.returns-in_err-obj
unfolding from_symbols
returns-in_err-obj c =
    gives_stops _ (is_err _ c.from_residual.ensures.1) c.in_err-obj.ensures.said lent_same

pub returns-in_err-relocs : goal.returns-in_err-relocs
unfolding from_symbols
returns-in_err-relocs c =
    let k = c.in_ok-obj.ensures in
    gives_goes (sym k.said)
    (gives_stops _ (is_err _ c.from_residual-in_err-relocs.ensures.1) (rw (taken-count 20 c.args.lent.now.symbols.now k.asked.symbols) at c.in_err-relocs.ensures.said) lent_same)

pub with_splits-requires : goal.with_splits-requires
with_splits-requires c =
    let a = c.args in
    let k = c.in_ok-obj.ensures in
    let o = k.asked in
    let r = c.in_ok-relocs.ensures in
    let heads = sections_in a.heads.now.bytes.now a.heads.now.places.now in
    let names = length a.names.now.lengths.now in
    let b = a.lent.now.symbols.now in
    rw (o.names, o.heads, o.symbols.bytes, o.symbols.places, o.order, r.table.bytes) (record {
      asked = record {
        tables = symbols_asked names heads b (sym k.said) _ _ _ (sym c.requires.0.paired) c.requires.0.named;
        sound = rw length-stage_places (symbols_sound 4096 names heads b (sym k.said));
      };
      headed = c.requires.1;
      relocated = relocs_taken heads (length b / 20) a.lent.now.relocs.now (sym (rw (taken-count 20 b o.symbols) at r.said)) _ r.table.places;
      few_names = c.requires.2;
      few_symbols = rw length-stage_places (table_passed 20 4096 b _ (sym k.said)).1;
    })

pub returns : goal.returns
unfolding from_symbols
returns c =
    let a = c.args in
    let k = c.in_ok-obj.ensures in
    let o = k.asked in
    let r = c.in_ok-relocs.ensures in
    gives_goes (sym k.said)
    (gives_goes (sym (rw (taken-count 20 a.lent.now.symbols.now o.symbols) at r.said))
    (gives_as
    (tables_as a.names.now.bytes.now a.names.now.places.now a.names.now.lengths.now (sections_in a.heads.now.bytes.now a.heads.now.places.now)
    (sections_of a.heads.now.bytes.now a.heads.now.places.now a.image.now.bytes.now a.image.now.places.now) a.lent.now.symbols.now _ a.lent.now.relocs.now _ a.lent.now.splits.now a.lent.now.units.now (within_ceilings a.tables.now.room)
    o.symbols.places r.table.places)
    (rw (o.names, o.heads, o.symbols.bytes, r.table.bytes) at c.with_splits.ensures)))
