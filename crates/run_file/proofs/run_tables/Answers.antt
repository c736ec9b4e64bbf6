-- The rooms for names are those that the definition has, the split table is the definition's, and its rows are ordered and walked.
use Prim.Native.Nat.{◌/◌}
use mathlib.Core.Path.{refl, ap, ◌∙◌}
use native.Mathlib.Omega.{arith}
use lib.ListN.{length}
use Rattle.names.specs.Names.{names_of}
use Rattle.names.proofs.Laws.{length-names}
use Rattle.load.specs.Load.{names_in}
use Rattle.loaded.specs.Tables.{tables_of}
use Rattle.loaded.proofs.Laws.{few_names, measured}
use Rattle.splits.specs.Table.{rows_in}
use Rattle.gap_splits.specs.Added.{beside}
use Rattle.gap_splits.specs.Answers.{added_in}
use Rattle.gap_splits.proofs.Naming.{stand_none}
use Rattle.run.specs.Outputs.{room_lent}
use Rattle.run_splits.specs.Table.{split_table}
use Rattle.run_splits.proofs.Tables.{table_of_parts, rows_homed}
use Rattle.run_room.specs.Room.{sum}
use Rattle.run_file.specs.RunFile.{rooms_in}
use Rattle.run_file.proofs.Laws.{usable_parts, usable_rest}
use Rattle.run_file.proofs.Stages.{names_room_lem, stages_are, holds, left_first, left_second, left_sum, room_less}
use Rattle.run_file.proofs.run_tables.Goals as goal

pub bytes_room-requires : goal.bytes_room-requires
bytes_room-requires c = let u = c.requires.0.usable in omega (arith, few_names u, measured u)

pub invariant_of-added : goal.invariant_of-added
invariant_of-added c =
    let a = c.args in
    let o = a.added.now in
    let l = a.loaded.now in
    let w = beside o.bytes.now o.places.now o.lengths.now in
    let names = left_first a.most.names (length l.names.now) 4096 c.names_room.ensures in
    let bytes = left_first a.most.bytes (sum l.lengths.now) 65535 c.bytes_room.ensures in
    record { stand = stand_none w _ _ (room_less w o.stand.room (omega (arith, names, c.requires.1.names)) (omega (arith, bytes, c.requires.1.bytes))) }

pub split_table-filled-requires : goal.split_table-filled-requires
split_table-filled-requires c =
    let q = c.requires in
    let r = q.0 in
    (record { usable = usable_parts r.usable; images_are = r.images_are; order_is = r.order_is; indexed = r.indexed }, q.1.rows)

pub order_and_walk-requires : goal.order_and_walk-requires
order_and_walk-requires c =
    let a = c.args in
    let q = c.requires in
    let s = c.split_table-filled in
    let u = q.0.usable in
    let l = a.loaded.now in
    let base = length-names l.file.now l.names.now l.lengths.now (length l.names.now) in
    let o = s.new.added in
    let more = length-names o.bytes.now o.places.now o.lengths.now o.count in
    let room = left_sum a.most.names (length l.names.now) 4096 c.names_room.ensures (few_names u) in
    let e = c.columns.ensures.columns in (
      record { usable = usable_rest u; images_are = q.0.images_are; order_is = q.0.order_is },
      λ accepts. rw (e.starts, e.ends, e.units, e.rest, e.count) (record {
        few = omega (arith, s.new.table.fits, s.ensures.lent.room, q.1.rows);
        homed = rows_homed u _ _ _ (added_in o) (rows_in s.new.table) s.result (s.ensures.tables ∙ table_of_parts l.file.now (tables_of l) _ _) accepts (omega (arith, base, room, more, o.stand.few, s.ensures.added.most));
      }),
    )

pub returns-clause-run : goal.returns-clause-run
unfolding rooms_in names_in
returns-clause-run c =
    let a = c.args in
    let q = c.requires in
    let l = a.loaded.now in
    let t = tables_of l in
    let units = length a.out.now.units.now / 8 in
    let output = room_lent a.out.now in
    let cap = a.table.now.room in
    let rooms = rooms_in l.file.now a.most.names a.most.bytes cap units output t in
    let base = names_of l.file.now l.names.now l.lengths.now (length l.names.now) in
    let counted = c.names_room.ensures in
    let sized = c.bytes_room.ensures in
    let asked = ap (split_table l.file.now t cap) (names_room_lem q.0.usable a.most.names a.most.bytes cap units output counted sized) in
    let s = c.split_table-filled in
    let o = s.new.added in
    let w = c.order_and_walk in
    let e = c.columns.ensures.columns in
    let made = rw (e.starts, e.ends, e.units, e.rest, e.count) at w.ensures.run in (
      stages_are l.file.now l.names.now l.lengths.now l.sections.now l.symbols.now l.relocs.now l.partials.now l.units.now base rooms refl (made.0 base (beside o.bytes.now o.places.now o.lengths.now))
          (s.ensures.tables ∙ table_of_parts l.file.now t _ _ ∙ asked),
      holds w.result a.most.names a.most.bytes cap output _ _ o.count o.used s.new.table.count made.1 o.stand (omega (arith, s.new.table.fits, s.ensures.lent.room))
          (omega (arith, s.ensures.added.most, left_second a.most.names (length l.names.now) 4096 counted)) (omega (arith, s.ensures.added.most, left_first a.most.names (length l.names.now) 4096 counted))
          (omega (arith, s.ensures.added.most_bytes, left_second a.most.bytes (sum l.lengths.now) 65535 sized)) (omega (arith, s.ensures.added.most_bytes, left_first a.most.bytes (sum l.lengths.now) 65535 sized)),
    )
