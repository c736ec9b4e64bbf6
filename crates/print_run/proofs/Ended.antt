-- What a run of the file left can be printed: where it was done its tables are readable, and the loader's columns have a place for each record.
-- Assumes nothing.
use Prim.Native.Nat.{ℕ, ◌+◌, ◌≤◌}
use mathlib.Core.Path.{◌≡◌, refl, ap, ◌∙◌}
use mathlib.Core.List.{List}
use native.Mathlib.Omega.{arith}
use lib.ListN.{length, drop, length-take, length-drop}
use Rattle.lists.specs.Outcome.{Outcome, accepted, ◌>>=◌}
use Rattle.names.specs.Append.{Columns as Beside}
use Rattle.tables.specs.Tables.{main_ceilings}
use Rattle.tables.specs.declared.Counts as load
use Rattle.load.specs.Load.{Loaded, load_of}
use Rattle.load.specs.Columns.{part, tables_in}
use Rattle.loaded.proofs.Bytes.{loaded_usable}
use Rattle.splits.specs.Columns.{Columns}
use Rattle.outputs.specs.Room.{room_for}
use Rattle.stage_walk.specs.Room.{room_in}
use Rattle.stage_walk.proofs.Room.{room_low, room_pieces, room_12, room_8}
use Rattle.run.specs.declared.Ran.{Ran}
use Rattle.order.specs.declared.Unlinked.{Unlinked}
use Rattle.run.specs.Run.{Rooms, Ended, stages, run_of}
use Rattle.run.specs.Answers.{ran_in}
use Rattle.run_file.specs.RunFile.{rooms_in, Holds, Runs}
use Rattle.run_file.specs.declared.RanFile.{RanFile}
use Rattle.run_listing.proofs.Readable.{run_readable}
use Rattle.print_run.specs.Printed.{PrintableIf, text_of, main_room, Prints}
use Rattle.std.specs.declared.option.Option.{Option}
use Rattle.std.specs.declared.result.Result.{Result}
use Rattle.std.specs.declared.result.Result.TheVariants.{Ok, Err}
use Rattle.std.specs.Prelude.{OnOk}
use Rattle.std.specs.Io.KnownBytes.{Appends}
use Rattle.pieces.specs.Pieces.{piece_width}

-- ---- the loader's columns

-- a part that is cut at the column's end has no more than this, so that it was not cut
part_few : (base n most : ℕ) (column : List ℕ) → base + most + 1 ≤ length column → length (part base n column) ≤ most → n ≤ most
unfolding part
part_few base n most column long few = omega (arith, length-take n (drop base column), length-drop base column)

-- ---- the run of a file that was loaded
run_stages : (file : List ℕ) (rooms : Loaded → Rooms) (t : Loaded) → load_of main_ceilings file ≡ accepted t → run_of file rooms ≡ stages file t (rooms t)
unfolding run_of ◌>>=◌
run_stages file rooms t e = ap (λ (o : Outcome Loaded). o >>= λ t. stages file t (rooms t)) e

module _ (file places lengths : List ℕ) (counts : load.Counts) (c : Beside) (table : Columns) (units pieces entries offsets : List ℕ) (units-room a b d : ℕ) where
  -- the answer of a run, with room in these tables
  run_printable : (ran : Result Ran Unlinked)
      → ran_in c table units pieces entries offsets ran
      ≡ run_of file (rooms_in file 4096 65535 1024 units-room (room_in a b d))
      → Holds 4096 65535 1024 (room_in a b d) c units ran
      → ((e : Ended) → ran_in c table units pieces entries offsets ran ≡ accepted e → load_of main_ceilings file ≡ accepted (tables_in counts places lengths))
      → 14464 ≤ length places
      → 4096 ≤ length lengths
      → length pieces ≡ a
      → length entries ≡ b
      → length offsets ≡ d
      → PrintableIf file counts places lengths c units pieces entries offsets ran
  unfolding tables_in
  run_printable (Ok r) e h loaded long lengths_long pieces_long entries-long offsets_long =
      let l = loaded _ refl in
      let u = loaded_usable file (tables_in counts places lengths) l in
      let w = h.3 in (
        record {
          pieces_long = omega (arith, w.pieces, room_pieces 1024 a);
          symbols_long = omega (arith, w.symbols, room_12 4096 b);
          relocs_long = omega (arith, w.relocs, room_8 4096 d);
          few_pieces = omega (arith, w.pieces, room_low 1024 a piece_width);
          few_symbols = omega (arith, w.symbols, room_low 4096 b 12);
        },
        record {
          places_long = long;
          lengths_long = lengths_long;
          names = part_few 10304 counts.names 4096 places (omega arith) u.good.within.names;
          symbols = part_few 64 counts.symbols 4096 places (omega arith) u.good.within.symbols;
          relocations = part_few 4160 counts.relocations 4096 places (omega arith) u.good.within.relocations;
          few = h.2.few;
          readable =
              run_readable u (rooms_in file 4096 65535 1024 units-room (room_in a b d) (tables_in counts places lengths)) c table units pieces entries offsets r.names r.used r.splits r.units r.made
              (e ∙ run_stages file _ _ l) h.0.packed h.2;
        },
      )
  run_printable (Err why) e h loaded long lengths_long pieces_long entries-long offsets_long = tt

-- THEOREM: what the run of a file left can be printed
pub runs_printable : {file places lengths : List ℕ} {c : Beside} {table : Columns} {units pieces entries offsets : List ℕ} {units-room a b d : ℕ} (r : RanFile)
    → Runs file 4096 65535 1024 units-room (room_in a b d) r places lengths c table units pieces entries offsets
    → 14464 ≤ length places
    → 4096 ≤ length lengths
    → length pieces ≡ a
    → length entries ≡ b
    → length offsets ≡ d
    → PrintableIf file r.counts places lengths c units pieces entries offsets r.ran
runs_printable {file} {places} {lengths} {c} {table} {units} {pieces} {entries} {offsets} {units-room} {a} {b} {d} r q =
    run_printable file places lengths r.counts c table units pieces entries offsets units-room a b d r.ran q.is q.holds q.loaded

-- THEOREM: the text of the answer of the run of a file, in the tables that it left, is what the file prints
pub printed : {E : Type 0} {file places lengths : List ℕ} {c : Beside} {table : Columns} {units pieces entries offsets : List ℕ} {units-room : ℕ} (a b d : ℕ) (r : RanFile)
    → Runs file 4096 65535 1024 units-room (room_in a b d) r places lengths c table units pieces entries offsets
    → (result : Result (Unit {0}) E) (old new : Option (List ℕ))
    → OnOk result (Appends old new (text_of file r.counts places lengths c units pieces entries offsets r.ran))
    → OnOk result (Prints file units-room (room_in a b d) old new)
printed {places = places} {lengths = lengths} {c = c} {table = table} {units = units} {pieces = pieces} {entries = entries} {offsets = offsets} a b d r q (Ok v) old new w = record {
  answer = r;
  places = places;
  lengths = lengths;
  added = c;
  table = table;
  units = units;
  pieces = pieces;
  entries = entries;
  offsets = offsets;
  runs = q;
  written = w;
}
printed a b d r q (Err e) old new w = tt

-- the tables of the outputs have document 01's ceilings
pub room_is : room_in 30720 49152 32768 ≡ main_room
unfolding room_for
room_is = refl
