-- A call of the entry `split_file`: the file that it is lent, its answer, and the bytes of its eight outputs. Document 01's demands on link order and on restoring are said of
-- these bytes: the split table that was walked, the units in link order and the pieces are read from the outputs, sections, symbols, unit records and names from the file.
-- The theorems: proofs/Order.antt (T1) and proofs/Restoring.antt (T2, T3).
use Rattle.std.specs.Prelude.{ℕ, ◌*◌, ◌/◌, ◌≤◌, ◌<◌, ◌≡◌, List, [], ◌∷◌, map, ◌≢◌, length, get_or, replicate}
use Rattle.lists.specs.Outcome.{Outcome, accepted, refused}
use Rattle.fields.specs.Fields.{le16}
use Rattle.obj.specs.Answers.{outcome_word}
use Rattle.obj.specs.Records.{stage_places, split_width}
use Rattle.obj.specs.declared.Section.{Section}
use Rattle.obj.specs.declared.Split.{Split}
use Rattle.obj.specs.declared.Unit as units
use Rattle.obj.specs.Nothing.{no_unit}
use Rattle.outputs.specs.Outputs.{counts_of}
use Rattle.tables.specs.Tables.{main_ceilings}
use Rattle.tables.specs.Records.{sections_in, splits_in, units_in}
use Rattle.load.specs.Load.{Loaded, nothing, load_of}
use Rattle.loaded.specs.Tables.{image_from, sections_from}
use Rattle.relocs.specs.Relocs.{reloc_of}
use Rattle.stage_splits.specs.StageSplits.{room_of}
use Rattle.stage_walk.specs.Room.{room_in}
use Rattle.gap_splits.specs.Entering.{Filled}
use Rattle.link_graph.specs.Graph.{Given, nodes}
use Rattle.link_graph.specs.Joined.{InOrder, IsCycle}
use Rattle.order.specs.LinkOrder.{record_of}
use Rattle.pieces.specs.declared.Piece.{Piece}
use Rattle.pieces.specs.Pieces.{pieces_in}
use Rattle.walk.specs.Walk.{Input}
use Rattle.walk.specs.Giving.{input_of}
use Rattle.run_splits.specs.Table.{split_table}
use Rattle.run.specs.Run.{Rooms, Result, linked, walked}
use Rattle.run_outputs.specs.Laid.{Sizes}
use Rattle.run_file.specs.RunFile.{rooms_in}
use Rattle.entry_split_file.specs.Entry.{split_file_of, left_by, Leaves}
use Rattle.entry_resolve_link_order.specs.Entry.{names_read, Records}

-- a call, and what it leaves: as the entry's contract says
pub record Call : Type 0 where
  pub file : List ℕ
  -- how many bytes are lent for each output
  pub sizes : Sizes
  -- the answer
  pub word : ℕ
  -- the outputs
  pub ends : List ℕ
  pub bytes : List ℕ
  pub splits : List ℕ
  pub units : List ℕ
  pub pieces : List ℕ
  pub symbols : List ℕ
  pub relocs : List ℕ
  pub counts : List ℕ
  pub leaves : Leaves (split_file_of file sizes) sizes word ends bytes splits units pieces symbols relocs counts

-- ---- the file

-- what was loaded; nothing of a file that is refused
abbrev pub loaded_by : Outcome Loaded → Loaded
loaded_by (accepted t) = t
loaded_by (refused number section address) = nothing

-- the places of the file's tables
abbrev pub tables : Call → Loaded
tables c = loaded_by (load_of main_ceilings c.file)

-- the sections' records without their bytes
abbrev pub section_heads : Call → List Section
section_heads c = sections_in c.file (tables c).sections

-- the file's unit records
abbrev pub unit_records : Call → List units.Unit
unit_records c = units_in c.file (tables c).units

-- the room that outputs of these sizes give the run of a file
abbrev pub rooms_for : (file : List ℕ) → Sizes → Loaded → Rooms
rooms_for file sizes =
    rooms_in file (sizes.ends / 2) sizes.bytes (room_of sizes.splits) (sizes.units / 8) (room_in sizes.pieces sizes.symbols sizes.relocs)

abbrev pub rooms : Call → Rooms
rooms c = rooms_for c.file c.sizes (tables c)

-- ---- the outputs

-- what the run's definition gives
abbrev pub result : Call → Result
result c = left_by (split_file_of c.file c.sizes)

-- how many splits, units and pieces there are: the counts say it where bytes are lent for it (`splits-counted`, `units_counted`, `pieces_counted`)
abbrev pub split_count : Call → ℕ
split_count c = length (result c).splits

abbrev pub unit_count : Call → ℕ
unit_count c = length (result c).units

abbrev pub piece_count : Call → ℕ
piece_count c = length (result c).output.pieces

-- the split table that was walked, read from its output
abbrev pub splits_of : Call → List Split
splits_of c = splits_in c.splits (stage_places split_width (split_count c))

-- the pieces, read from their output
abbrev pub pieces_of : Call → List Piece
pieces_of c = pieces_in c.pieces (piece_count c)

-- ---- T1: link order

-- what joins units: these splits, the file's unit records, and "`.ctors` and `.dtors`" by the names of the file's sections
abbrev pub given_by : Call → List Split → Given
given_by c splits = linked c.file (tables c) splits

-- the file is loaded, and its split table is made: no check up to the trim refuses it
pub record Tabled (c : Call) : Type 0 where
  pub loaded : load_of main_ceilings c.file ≡ accepted (tables c)
  pub full : Filled
  pub tabled : split_table c.file (tables c) (rooms c).splits (rooms c).names ≡ accepted full

-- the split output holds the run's split table, and the third count is the number of its rows
pub record HoldsTable (c : Call) : Type 0 where
  pub table : Tabled c
  pub rows : splits_of c ≡ table.full.rows
  pub counted : 6 ≤ c.sizes.counts → le16 c.counts 4 ≡ length (splits_of c)

-- T1.1: the unit output names each unit that has a split in the table that was walked once and nothing else, each by its own record, each before those that it is joined to;
-- zeros follow; and the fourth count is the number of these units
pub record InLinkOrder (c : Call) : Type 0 where
  pub order : InOrder (given_by c (splits_of c)) (names_read c.units (length (nodes (splits_of c))))
  pub records : Records (given_by c (splits_of c)) c.units (length (nodes (splits_of c)))
  pub counted : 8 ≤ c.sizes.counts → le16 c.counts 6 ≡ length (nodes (splits_of c))

-- neither 60 nor 76 of the link order comes for it: no two unit records have the same order number, and there is room for all units
pub record Orderly (c : Call) (t : Tabled c) : Type 0 where
  pub numbers : (i j : ℕ) → i < j → j < length (unit_records c) → (get_or (unit_records c) i no_unit).has_order ≡ 1 → (get_or (unit_records c) j no_unit).has_order ≡ 1
      → (get_or (unit_records c) i no_unit).order ≢ (get_or (unit_records c) j no_unit).order
  pub room : 8 * length (nodes t.full.rows) ≤ c.sizes.units

-- T1.2, no cycle: a link order of the units was walked, and the answer is the walk's
pub record Walks (c : Call) (t : Tabled c) : Type 0 where
  pub order : List units.Unit
  pub in_order : InOrder (given_by c t.full.rows) (map (λ (u : units.Unit). u.name) order)
  pub own : (k : ℕ) → k < length order → get_or order k no_unit ≡ record_of t.full.rows (unit_records c) (get_or order k no_unit).name
  pub answer : c.word ≡ outcome_word (walked c.file (tables c) (rooms c).output t.full.rows order)

-- T1.3: the unit output holds k units of the run's split table, each joined to the next and the last to the first, none twice, each by its own record; zeros follow;
-- the fourth count is k, and all other outputs are zeros
pub record OnCycle (c : Call) : Type 0 where
  pub table : Tabled c
  pub k : ℕ
  pub cycle : IsCycle (given_by c table.full.rows) (names_read c.units k)
  pub records : Records (given_by c table.full.rows) c.units k
  pub ends : c.ends ≡ replicate c.sizes.ends 0
  pub bytes : c.bytes ≡ replicate c.sizes.bytes 0
  pub splits : c.splits ≡ replicate c.sizes.splits 0
  pub pieces : c.pieces ≡ replicate c.sizes.pieces 0
  pub symbols : c.symbols ≡ replicate c.sizes.symbols 0
  pub relocs : c.relocs ≡ replicate c.sizes.relocs 0
  pub counts : c.counts ≡ counts_of c.sizes.counts (0 ∷ 0 ∷ 0 ∷ k ∷ 0 ∷ 0 ∷ 0 ∷ [])

-- ---- T2, T3: restoring

-- the tables as the walk saw them: image, sections and relocations of the file, the splits and the units of the outputs
abbrev pub input : Call → Input
input c =
    input_of (image_from c.file (tables c)) (sections_from c.file (tables c)) (reloc_of c.file (tables c).relocations) (length (tables c).relocations) (splits_of c)
    (names_read c.units (unit_count c)) (rooms c).output

-- two calls with the same walked splits and section heads; symbols, names, unit records, relocations, the sections' bytes and the lent sizes are arbitrary
pub record SameTables (c d : Call) : Type 0 where
  pub heads : section_heads c ≡ section_heads d
  pub splits : splits_of c ≡ splits_of d
