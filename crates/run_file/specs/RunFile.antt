-- The run of a record file over lent columns: what room the lent tables give it, what its functions are given, and what they leave. The run is `run_of` of run/specs/Run.antt.
use Rattle.std.specs.Prelude.{ℕ, ◌-◌, ◌/◌, ◌≤◌, ◌≡◌, List, length}
use Rattle.lists.specs.Outcome.{accepted}
use Rattle.names.specs.Names.{names_of}
use Rattle.names.specs.Index.{Indexed}
use Rattle.names.specs.Append.{Columns as Beside}
use Rattle.tables.specs.Tables.{main_ceilings}
use Rattle.load.specs.Load.{Loaded, load_of, names_in}
use Rattle.load.specs.Columns as columns
use Rattle.load.specs.Columns.{tables_in}
use Rattle.tables.specs.declared.Counts as load
use Rattle.run_load.specs.Prepared.{Ordered}
use Rattle.run_load.specs.Lent.{ShowsIndex}
use Rattle.run_load.specs.declared.Prepared.{Prepared}
use Rattle.run_load.specs.declared.file_columns.FileColumns.{FileColumns}
use Rattle.loaded.specs.Tables.{byte_places, tables_with, tables_of, Usable}
use Rattle.loaded.specs.declared.Loaded as loaded
use Rattle.names.specs.declared.NameIndex.{NameIndex}
use Rattle.symbol_order.specs.Order.{symbol_of, order_of}
use Rattle.splits.specs.Columns.{Columns}
use Rattle.gap_splits.specs.Entering.{bytes_of}
use Rattle.gap_splits.specs.Added.{beside}
use Rattle.gap_splits.specs.Answers.{ceilings}
use Rattle.gap_splits.specs.declared.added_names.AddedNames.{AddedNames}
use Rattle.splits.specs.declared.split_table.SplitTable.{SplitTable}
use Rattle.pieces.specs.declared.Counts.{Counts}
use Rattle.run.specs.Run.{Rooms, Ended, run_of}
use Rattle.run.specs.Answers.{ran_in, Names, Units, Within}
use Rattle.run.specs.Outputs.{room_lent}
use Rattle.run.specs.declared.Ran.{Ran}
use Rattle.run.specs.declared.RunTables.{RunTables}
use Rattle.std.specs.Prelude.{Result, Ok, Err}
use Rattle.order.specs.declared.Unlinked.{Unlinked}
use Rattle.order.specs.declared.Unlinked.TheVariants.{Refused, Cycle}
use Rattle.lists.specs.Bounds.{lower}
use Rattle.run_file.specs.declared.RanFile.{RanFile}

-- ---- the room

-- "4,096 names of 65,535 bytes in all", of which the file has some; "A shorter lent output table has its own length as ceiling": so many names are lent a place, and so
-- many bytes
unfoldable pub rooms_in : (file : List ℕ) → (names bytes splits units : ℕ) → (output : Counts) → Loaded → Rooms
rooms_in file names bytes splits units output t = record {
  names = ceilings (names_in file t) (lower (4096 - length (names_in file t)) names) (lower (65535 - bytes_of (names_in file t)) bytes);
  splits = splits;
  units = units;
  output = output;
}

-- ---- what the functions are given

-- the tables of a file that was accepted, with the index of its names, the places of its sections' bytes and its symbol order
pub record Ready (file names lengths buckets chain sections images symbols order relocs partials units : List ℕ) : Type 0 where
  pub usable : Usable file (tables_with names lengths sections symbols relocs partials units)
  pub indexed : Indexed (names_of file names lengths (length names)) buckets chain
  pub images_are : images ≡ byte_places sections
  pub order_is : order ≡ order_of (symbol_of file symbols) (length symbols)

abbrev pub ReadyIn : loaded.Loaded → NameIndex → Type 0
ReadyIn l index =
    Ready l.file.now l.names.now l.lengths.now index.heads.now index.chain.now l.sections.now l.images.now l.symbols.now l.order.now l.relocs.now l.partials.now
    l.units.now

-- a split table of no more rows than document 01 allows, and room for all names that may be added
pub record Lent (t : SplitTable) (a : AddedNames) : Type 0 where
  pub rows : t.room ≤ 1024
  pub names : a.most.names ≡ 4096
  pub bytes : a.most.bytes ≡ 65535

-- the columns of the names that are added
abbrev pub beside_in : AddedNames → Beside
beside_in a = beside a.bytes.now a.places.now a.lengths.now

-- the columns of the names that are added are still those that were lent, of the same lengths; how many may be added depends on the file
pub record SameNames (before after : AddedNames) : Type 0 where
  pub bytes : after.bytes.ghost_name ≡ before.bytes.ghost_name
  pub places : after.places.ghost_name ≡ before.places.ghost_name
  pub lengths : after.lengths.ghost_name ≡ before.lengths.ghost_name
  pub bytes_size : length after.bytes.now ≡ length before.bytes.now
  pub places_size : length after.places.now ≡ length before.places.now
  pub lengths_size : length after.lengths.now ≡ length before.lengths.now

-- what was loaded, in the loader's columns, with the places of the sections' bytes and the symbol order
pub record Stored (file : List ℕ) (n : load.Counts) (ordered : ℕ) (places lengths heads chain images order : List ℕ) : Type 0 where
  pub usable : Usable file (tables_in n places lengths)
  pub ready : columns.Ready main_ceilings file n places lengths heads chain
  pub done : Ordered file (tables_in n places lengths) images order ordered
  pub images_long : 64 ≤ length images

abbrev pub StoredIn : (file : List ℕ) → Prepared → FileColumns → Type 0
StoredIn file p c = Stored file p.counts p.ordered c.places.now c.lengths.now c.heads.now c.chain.now c.images.now c.order.now

-- these tables are what was loaded, and are ready for the stages with the index that is in the columns
pub record LoadedIn (file : List ℕ) (p : Prepared) (c : FileColumns) (l : loaded.Loaded) : Type 0 where
  pub file_is : l.file.now ≡ file
  pub tables_are : tables_of l ≡ tables_in p.counts c.places.now c.lengths.now
  pub ready : (index : NameIndex) → ShowsIndex c index → ReadyIn l index

-- ---- what they leave

-- what is known of an answer beside its meaning
abbrev pub Holds : (most most_bytes cap : ℕ) → (room : Counts) → Beside → (units : List ℕ) → Result Ran Unlinked → Type 0
Holds most most_bytes cap room c units (Ok r) = Names c r.names r.used most most_bytes × (r.splits ≤ cap) × Units units r.units × Within room r.made
Holds most most_bytes cap room c units (Err (Cycle count)) = Units units count
Holds most most_bytes cap room c units (Err (Refused r)) = Unit {0}

-- the run of the file, in the lent tables
pub record Runs (file : List ℕ) (names bytes cap : ℕ) (units-room : ℕ) (room : Counts) (r : RanFile) (places lengths : List ℕ) (c : Beside) (table : Columns)
    (units pieces entries offsets : List ℕ) : Type 0 where
  pub is : ran_in c table units pieces entries offsets r.ran ≡ run_of file (rooms_in file names bytes cap units-room room)
  pub holds : Holds names bytes cap room c units r.ran
  -- the columns hold what was loaded
  pub loaded : (e : Ended) → ran_in c table units pieces entries offsets r.ran ≡ accepted e → load_of main_ceilings file ≡ accepted (tables_in r.counts places lengths)

-- .. in output tables that were `before` and are `after`
abbrev pub HoldsIn : (most most_bytes cap : ℕ) → (before : RunTables) → Beside → (after : RunTables) → Result Ran Unlinked → Type 0
HoldsIn most most_bytes cap before c after r = Holds most most_bytes cap (room_lent before) c after.units.now r

abbrev pub RunsIn : (file : List ℕ) → (names bytes cap : ℕ) → (before : RunTables) → RanFile → FileColumns → Beside → Columns → (after : RunTables) → Type 0
RunsIn file names bytes cap before r columns c table after =
    Runs file names bytes cap (length before.units.now / 8) (room_lent before) r columns.places.now columns.lengths.now c table
    after.units.now after.pieces.now after.entries.now after.offsets.now
