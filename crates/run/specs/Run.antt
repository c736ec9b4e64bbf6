-- The whole run: document 01, "It merges the partial splits in file order (`add_split`), marks common (`update_common_splits` with no start), fills gaps
-- (`create_gap_splits`), checks (`validate_splits`), trims (..), orders (`resolve_link_order`, `toposort`) and walks (`split_obj`, its section loop only)." The tables are
-- checked once, by the loader; each stage is its own definition on the tables before it: up to the trim they stand in run_splits, specs/Table.antt. Names stay in the file;
-- only gap units' names are added.
use Rattle.std.specs.Prelude.{ℕ, List, [], map, length, drop}
use Rattle.lists.specs.Outcome.{Outcome, accepted, ◌>>=◌}
use Rattle.obj.specs.declared.Split.{Split}
use Rattle.obj.specs.declared.Unit as units
use Rattle.tables.specs.Tables.{main_ceilings}
use Rattle.tables.specs.Records.{units_in}
use Rattle.load.specs.Load.{Loaded, load_of, names_in}
use Rattle.loaded.specs.Tables.{image_from, sections_from}
use Rattle.relocs.specs.Relocs.{reloc_of}
use Rattle.gap_splits.specs.Entering.{Ceilings}
use Rattle.link_graph.specs.Graph as graph
use Rattle.link_graph.specs.Columns.{pointers_in}
use Rattle.order.specs.LinkOrder.{link_order, records_of}
use Rattle.toposort.specs.Search.{End, all, cyclic, lost}
use Rattle.pieces.specs.declared.Counts.{Counts}
use Rattle.walk.specs.Walk as walking
use Rattle.walk.specs.Giving.{input_of}
use Rattle.run_splits.specs.Table.{split_table}

-- how many records the lent tables hold, document 01's ceilings at most: names and their bytes (the file's and the added ones), splits, units, and the walk's output
pub record Rooms : Type 0 where
  pub names : Ceilings
  pub splits : ℕ
  pub units : ℕ
  pub output : Counts

-- what a run gives: the names that were added to the file's, the split table as it was walked, the units in link order, and the walk's output
pub record Result : Type 0 where
  pub added : List (List ℕ)
  pub splits : List Split
  pub units : List units.Unit
  pub output : walking.Output

-- a run ends with a result, or with "61 cycle, left in the unit table"
pub data Ended : Type 0 where
  done : Result → Ended
  cycle : List units.Unit → Ended

module _ (file : List ℕ) (t : Loaded) where
  abbrev pub linked : List Split → graph.Given
  linked rows = record { splits = rows; units = units_in file t.units; pointers = pointers_in file t.sections file t.names t.lengths }

  -- the unit records of these nodes
  abbrev pub units_of : List Split → (nodes : List ℕ) → List units.Unit
  units_of rows nodes = records_of rows (units_in file t.units) nodes

  -- "walks": units by their names' numbers, in link order
  unfoldable pub walked : (room : Counts) → List Split → List units.Unit → Outcome walking.Output
  walked room rows order =
      walking.walk (input_of (image_from file t) (sections_from file t) (reloc_of file t.relocations) (length t.relocations) rows (map (λ (u : units.Unit). u.name) order) room)

  -- the walk in an order that was found; "61 cycle, left in the unit table"
  unfoldable pub on_order : (room : Counts) → (added : List (List ℕ)) → (rows : List Split) → End → Outcome Ended
  on_order room added rows (all l) = do
    out ← walked room rows (units_of rows l)
    accepted (done (record { added = added; splits = rows; units = units_of rows l; output = out }))
  on_order room added rows (cyclic l) = accepted (cycle (units_of rows l))
  -- a search never ends lost (toposort's `searched_right`)
  on_order room added rows lost = accepted (cycle [])

  -- "orders (`resolve_link_order`, `toposort`) and walks": with room for so many units and so much output
  unfoldable pub ordered_and_walked : (units : ℕ) → (room : Counts) → (added : List (List ℕ)) → (rows : List Split) → Outcome Ended
  ordered_and_walked units room added rows = do
    end ← link_order (linked rows) units
    on_order room added rows end

  -- the stages one after another: `split_table` merges, marks common, fills gaps, checks and trims
  unfoldable pub stages : Rooms → Outcome Ended
  stages room = do
    full ← split_table file t room.splits room.names
    ordered_and_walked room.units room.output (drop (length (names_in file t)) full.names) full.rows

-- the run of a record file. The added names have room beside the file's, of which some rooms so depend
unfoldable pub run_of : (file : List ℕ) → (Loaded → Rooms) → Outcome Ended
run_of file rooms = load_of main_ceilings file >>= λ t. stages file t (rooms t)
