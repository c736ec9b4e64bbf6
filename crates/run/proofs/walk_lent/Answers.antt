-- The units have their places and each name the number of its unit, and the sections are walked. The tables are still those that were lent, and what was made is within
-- their room.
use Rattle.std.proofs.Common.{rules}
use mathlib.Core.Path.{refl, sym, ap, ◌∙◌}
use native.Mathlib.Omega.{arith}
use lib.ListN.{length}
use Rattle.obj.proofs.Errors.{is_err}
use Rattle.lists.specs.Outcome.{accepted}
use Rattle.loaded.proofs.Laws.{few_symbols}
use Rattle.pieces.specs.declared.Counts.{Counts}
use Rattle.obj.proofs.Laws.{length-stage_places}
use Rattle.tables.proofs.Lookups.{places_front}
use Rattle.splits.specs.Table.{columns_of, rows_of}
use Rattle.walk.specs.Giving.{output_in}
use Rattle.stage_walk.proofs.Room.{fits_none, room_low_all, within_same}
use Rattle.run.specs.Run.{walked}
use Rattle.run.specs.Answers.{units_at, walked_tables}
use Rattle.run.proofs.Walking.{units_listed, ready, walked_as}
use Rattle.run.proofs.walk_lent.Goals as goal

pub number_units-requires : goal.number_units-requires
number_units-requires c =
    let q = c.requires in
    units_listed c.args.out.now.units.now _ _ c.args.count (places_front _ _ _ _ (omega (arith, q.2.few)) c.fill_places.ensures) q.2 q.3 (omega arith)

pub invariant_of-tables : goal.invariant_of-tables
invariant_of-tables c = record { fits = fits_none c.args.out.now.pieces.now c.args.out.now.entries.now c.args.out.now.offsets.now _ _ c.room_of.ensures (search (rules, c.default.ensures)) }

pub walk_columns-requires : goal.walk_columns-requires
walk_columns-requires c =
    let a = c.args in
    let q = c.requires in
    let n = c.number_units in
    let placed = places_front 8 a.count _ c.fill_places.new.places (omega (arith, q.2.few)) c.fill_places.ensures in
    let count = ap length placed ∙ length-stage_places 8 a.count in
    rw (c.obj.ensures, c.image.ensures) (
      ready q.0 _ n.new.column (columns_of a.splits.now) a.splits.now.count q.1
          (omega (arith, count, q.2.few)) (omega (arith, n.auto.column)),
      few_symbols q.0.usable,
    )

pub returns-in_err-walk_columns-clause-gives : goal.returns-in_err-walk_columns-clause-gives
returns-in_err-walk_columns-clause-gives c =
    let a = c.args in
    let l = a.loaded.now in
    let placed = places_front 8 a.count _ c.fill_places.new.places (omega (arith, c.requires.2.few)) c.fill_places.ensures in
    let w = walked_as c.requires.0 (rows_of a.splits.now) a.out.now.units.now _ a.count _ placed (rw (c.obj.ensures, c.image.ensures) at c.in_err-walk_columns.ensures) in
    rw (is_err _ c.from_residual.ensures.1)
    (record {
      is = w.is ∙ ap (λ (room : Counts). walked l.file.now (walked_tables l) room (rows_of a.splits.now) (units_at a.out.now.units.now a.count)) (within_same (room_low_all a.out.now.pieces.now a.out.now.entries.now a.out.now.offsets.now _ c.room_of.ensures) ∙ c.room_of.ensures);
      within = tt;
    })

pub returns-clause-gives : goal.returns-clause-gives
returns-clause-gives c =
    let a = c.args in
    let l = a.loaded.now in
    let t = c.walk_columns.new.tables in
    let placed = places_front 8 a.count _ c.fill_places.new.places (omega (arith, c.requires.2.few)) c.fill_places.ensures in
    let w = walked_as c.requires.0 (rows_of a.splits.now) a.out.now.units.now _ a.count _ placed (rw (c.obj.ensures, c.image.ensures) at c.in_ok-walk_columns.ensures) in
    let room = w.lent.room ∙ c.room_of.ensures in
    let pieces = c.pieces-2-1.given.1.1 (sym w.lent.pieces) in
    let entries = c.entries-2-1.given.1.1 (sym w.lent.symbols) in
    let offsets = c.offsets-2-1.given.1.1 (sym w.lent.relocs) in
    record {
      is = (λ d. accepted (output_in (pieces d) (entries d) (offsets d) t.made))
          ∙ w.is
          ∙ ap (λ (room : Counts). walked l.file.now (walked_tables l) room (rows_of a.splits.now) (units_at a.out.now.units.now a.count)) (within_same (room_low_all a.out.now.pieces.now a.out.now.entries.now a.out.now.offsets.now _ c.room_of.ensures) ∙ c.room_of.ensures);
      within = record {
        pieces = omega (arith, t.fits.few_pieces, ap (λ (m : Counts). m.pieces) room);
        symbols = omega (arith, t.fits.few_symbols, ap (λ (m : Counts). m.symbols) room);
        relocs = omega (arith, t.fits.few_relocs, ap (λ (m : Counts). m.relocs) room);
      };
    }
