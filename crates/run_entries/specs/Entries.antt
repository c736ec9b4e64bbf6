-- The run of a record file by the stages' entries: document 01, "It merges the partial splits in file order (`add_split`), marks common (`update_common_splits` with no
-- start), fills gaps (`create_gap_splits`), checks (`validate_splits`), trims (..), orders (`resolve_link_order`, `toposort`) and walks (`split_obj`, its section loop
-- only)." Each line is what the stage's entry gives on lent bytes, with the checks of all its tables: the tables of the loaded file (file_tables) and what the entries before
-- it gave. That `split_file` gives the same, so that no check of a table refuses between the stages: `run_is_entries` of proofs/Theorem.antt.
use Rattle.std.specs.Prelude.{ℕ, ◌+◌, ◌-◌, ◌*◌, ◌/◌, List, [], length, drop}
use Rattle.lists.specs.Outcome.{Outcome, accepted, ◌>>◌, ◌>>=◌}
use Rattle.obj.specs.declared.Split.{Split}
use Rattle.obj.specs.declared.Unit as units
use Rattle.tables.specs.Tables.{main_ceilings}
use Rattle.stage_tables.specs.StageTables.{stage_splits, stage_units}
use Rattle.stage_names.specs.StageNames.{flat, name_ends}
use Rattle.load.specs.Load.{Loaded, load_of, names_in}
use Rattle.splits.specs.Bytes.{table_bytes}
use Rattle.gap_splits.specs.Entering.{bytes_of}
use Rattle.toposort.specs.Search.{End, all, cyclic, lost}
use Rattle.order.specs.LinkOrder.{records_of}
use Rattle.order.specs.Bytes.{units_bytes}
use Rattle.stage_walk.specs.Room.{room_in}
use Rattle.run.specs.Run.{Ended, done, cycle}
use Rattle.run_outputs.specs.Laid.{Sizes}
use Rattle.file_tables.specs.Tables.{tables_of}
use Rattle.entry_add_splits.specs.Entry.{add_splits_of}
use Rattle.entry_update_common_splits.specs.Entry.{update_of}
use Rattle.entry_create_gap_splits.specs.Entry.{gap_splits_of}
use Rattle.entry_validate_splits.specs.Entry.{validate_of}
use Rattle.entry_trim_splits.specs.Entry.{trim_of}
use Rattle.entry_resolve_link_order.specs.Entry.{resolve_of}
use Rattle.entry_split_obj.specs.Entry.{split_obj_of}
use Rattle.lists.specs.Bounds.{lower}

-- ---- the name outputs of `create_gap_splits`, which gives all names back, where `split_file` gives only those that were added

-- the bytes for the ends: two for each name of the file, and two for each name that `lent` bytes leave room for, 4,096 names at most
unfoldable pub ends_size : (names : List (List ℕ)) → (lent : ℕ) → ℕ
ends_size names lent = 2 * (length names + lower (4096 - length names) (lent / 2))

-- the bytes for the names: those of the file's, and `lent` more, 65,535 at most
unfoldable pub bytes_size : (names : List (List ℕ)) → (lent : ℕ) → ℕ
bytes_size names lent = bytes_of names + lower (65535 - bytes_of names) lent

-- ---- the stages

module _ (file : List ℕ) (t : Loaded) (sizes : Sizes) where
  -- the unit records that `resolve_link_order` leaves of these nodes
  abbrev pub units_left : List Split → (nodes : List ℕ) → List units.Unit
  units_left rows nodes = records_of (stage_splits (table_bytes rows)) (stage_units (tables_of file t).units) nodes

  -- "walks (`split_obj`, ..)", with all names, in an order that was found; "61 cycle, left in the unit table"
  unfoldable pub walk_entry : (names : List (List ℕ)) → (rows : List Split) → End → Outcome Ended
  walk_entry names rows (all nodes) = do
    out ← split_obj_of (name_ends names) (flat names) (tables_of file t).sections (tables_of file t).places file (tables_of file t).symbols (tables_of file t).relocations
        (table_bytes rows) (units_bytes (units_left rows nodes)) (room_in sizes.pieces sizes.symbols sizes.relocs)
    accepted (done (record { added = drop (length (names_in file t)) names; splits = rows; units = units_left rows nodes; output = out }))
  walk_entry names rows (cyclic nodes) = accepted (cycle (units_left rows nodes))
  -- a search never ends lost (toposort's `searched_right`)
  walk_entry names rows lost = accepted (cycle [])

  -- each entry on the tables before it; the names are the file's up to the gaps, and from there on those that `create_gap_splits` gave
  unfoldable pub stage_entries : Outcome Ended
  stage_entries = do
    -- "merges the partial splits in file order (`add_split`)", into a table that has none
    merged ← add_splits_of (name_ends (names_in file t)) (flat (names_in file t)) (tables_of file t).sections [] (tables_of file t).partials sizes.splits
    -- "marks common (`update_common_splits` with no start)"
    common ← update_of (name_ends (names_in file t)) (flat (names_in file t)) (tables_of file t).sections (table_bytes merged) 0 0 sizes.splits
    -- "fills gaps (`create_gap_splits`)"
    full ← gap_splits_of (name_ends (names_in file t)) (flat (names_in file t)) (tables_of file t).sections (tables_of file t).places file (tables_of file t).symbols
        (table_bytes common) (ends_size (names_in file t) sizes.ends) (bytes_size (names_in file t) sizes.bytes) sizes.splits
    -- "checks (`validate_splits`)"
    validate_of (name_ends full.names) (flat full.names) (tables_of file t).sections (tables_of file t).symbols (table_bytes full.rows)
    -- "trims (..)"
    rows ← trim_of (name_ends full.names) (flat full.names) (tables_of file t).sections (tables_of file t).places file (tables_of file t).symbols
        (table_bytes full.rows) sizes.splits
    -- "orders (`resolve_link_order`, `toposort`)"
    end ← resolve_of (name_ends full.names) (flat full.names) (tables_of file t).sections (table_bytes rows) (tables_of file t).units sizes.units
    -- "and walks"
    walk_entry full.names rows end

-- a record file: it is loaded, and then come the entries
unfoldable pub entries_of : (file : List ℕ) → Sizes → Outcome Ended
entries_of file sizes = load_of main_ceilings file >>= λ t. stage_entries file t sizes
