-- What the answers of the run mean over the lent tables, and what the functions of the run are given and leave.
use Rattle.std.specs.Prelude.{ℕ, ◌*◌, ◌≤◌, ◌≡◌, List, [], length, take, drop, Result, Ok, Err}
use Rattle.lists.specs.Outcome.{Outcome, accepted, refused, ◌>>=◌}
use Rattle.lists.specs.Sort.{All}
use Rattle.obj.specs.Records.{stage_places}
use Rattle.obj.specs.declared.Unit as unit_records
use Rattle.tables.specs.Records.{units_in}
use Rattle.load.specs.Load.{Loaded}
use Rattle.loaded.specs.Tables.{byte_places, tables_with, Usable}
use Rattle.loaded.specs.declared.Loaded.{Loaded as Lent}
use Rattle.names.specs.Append.{Packed, Columns as Beside}
use Rattle.symbol_order.specs.Order.{symbol_of, order_of}
use Rattle.splits.specs.Columns.{Columns, rows}
use Rattle.order.specs.Bytes.{units_bytes}
use Rattle.gap_splits.specs.Entering.{Filled, bytes_of}
use Rattle.gap_splits.specs.Added.{added}
use Rattle.pieces.specs.declared.Counts.{Counts}
use Rattle.obj.specs.declared.Refusal.{Refusal}
use Rattle.walk.specs.Walk.{Output}
use Rattle.walk.specs.Giving.{output_in}
use Rattle.run_splits.specs.Table.{Homed}
use Rattle.run.specs.declared.Ran.{Ran}
use Rattle.order.specs.declared.Unlinked.{Unlinked}
use Rattle.order.specs.declared.Unlinked.TheVariants.{Refused, Cycle}
use Rattle.run.specs.Run.{Ended, done, cycle, ordered_and_walked}

-- the first n records of a unit table
abbrev pub units_at : (units : List ℕ) → (n : ℕ) → List unit_records.Unit
units_at units n = units_in units (stage_places 8 n)

-- what an answer means: the names beside the file's, the split table in its columns, and the output tables
abbrev pub ran_in : Beside → Columns → (units pieces entries offsets : List ℕ) → Result Ran Unlinked → Outcome Ended
ran_in c table units pieces entries offsets (Ok r) =
    accepted (done (record { added = added c r.names; splits = rows table r.splits; units = units_at units r.units; output = output_in pieces entries offsets r.made }))
ran_in c table units pieces entries offsets (Err (Cycle n)) = accepted (cycle (units_at units n))
ran_in c table units pieces entries offsets (Err (Refused r)) = refused r.number r.section r.address

-- the tables that the link order and the walk read: no partial splits
abbrev pub walked_tables : Lent → Loaded
walked_tables l = tables_with l.names.now l.lengths.now l.sections.now l.symbols.now l.relocs.now [] l.units.now

-- the tables of a file that was accepted, with the places of the sections' bytes and the symbol order
pub record Prepared (file names lengths sections images symbols order relocs units : List ℕ) : Type 0 where
  pub usable : Usable file (tables_with names lengths sections symbols relocs [] units)
  pub images_are : images ≡ byte_places sections
  pub order_is : order ≡ order_of (symbol_of file symbols) (length symbols)

abbrev pub PreparedIn : Lent → Type 0
PreparedIn l = Prepared l.file.now l.names.now l.lengths.now l.sections.now l.images.now l.symbols.now l.order.now l.relocs.now l.units.now

-- n rows of a split table that was made of it: their sections are there, and their units are names
pub record Tabled (sections : ℕ) (table : Columns) (n : ℕ) : Type 0 where
  pub few : n ≤ 1024
  pub homed : All (Homed sections 4096) (rows table n)

-- the names that were added lie in their columns, and are no more than were lent
pub record Names (c : Beside) (names used most most_bytes : ℕ) : Type 0 where
  pub packed : Packed c.bytes c.places c.lengths names used
  pub sum : used ≡ bytes_of (added c names)
  pub few : names ≤ most
  pub small : names ≤ 4096
  pub short : used ≤ most_bytes
  pub low : used ≤ 65535

-- n unit records stand at the front of the unit table, whole
pub record Units (units : List ℕ) (n : ℕ) : Type 0 where
  pub few : n ≤ 1024
  pub fit : 8 * n ≤ length units
  pub written : take (8 * n) units ≡ units_bytes (units_at units n)

-- what was made is within the room
pub record Within (room made : Counts) : Type 0 where
  pub pieces : made.pieces ≤ room.pieces
  pub symbols : made.symbols ≤ room.symbols
  pub relocs : made.relocs ≤ room.relocs

-- what an answer of the walk means over the lent tables, and that what was made is within the room
abbrev pub walk_meaning : (pieces entries offsets : List ℕ) → Result Counts Refusal → Outcome Output
walk_meaning pieces entries offsets (Ok made) = accepted (output_in pieces entries offsets made)
walk_meaning pieces entries offsets (Err r) = refused r.number r.section r.address

abbrev pub MadeWithin : (room : Counts) → Result Counts Refusal → Type 0
MadeWithin room (Ok made) = Within room made
MadeWithin room (Err r) = Unit {0}

pub record WalkGives (o : Outcome Output) (room : Counts) (r : Result Counts Refusal) (pieces entries offsets : List ℕ) : Type 0 where
  pub is : walk_meaning pieces entries offsets r ≡ o
  pub within : MadeWithin room r

-- what is known of an answer beside its meaning: names and splits are as many as were given, units and output are within their tables
abbrev pub Keeps : (names used splits : ℕ) → (room : Counts) → (units : List ℕ) → Result Ran Unlinked → Type 0
Keeps names used splits room units (Ok r) = (r.names ≡ names) × (r.used ≡ used) × (r.splits ≡ splits) × Units units r.units × Within room r.made
Keeps names used splits room units (Err (Cycle count)) = Units units count
Keeps names used splits room units (Err (Refused r)) = Unit {0}

-- ---- an answer after another

-- the link order and the walk of a split table that is given with all names, of which the file has `base`
abbrev pub walked_after : (file : List ℕ) → Loaded → (units : ℕ) → (room : Counts) → (base : ℕ) → Outcome Filled → Outcome Ended
walked_after file t units room base table = table >>= λ full. ordered_and_walked file t units room (drop base full.names) full.rows
