-- The split table of the run: document 01, "It merges the partial splits in file order (`add_split`), marks common (`update_common_splits` with no start), fills
-- gaps (`create_gap_splits`), checks (`validate_splits`), trims (..)". Each stage is its own definition on the table before it. What is known of the rows that are left:
-- `table_homed` of proofs/Keeping.antt.
use Rattle.std.specs.Prelude.{ℕ, ◌≤◌, ◌<◌, ◌≡◌, List, [], false, length}
use Rattle.lists.specs.Outcome.{Outcome, accepted, ◌>>◌, ◌>>=◌}
use Rattle.obj.specs.declared.Split.{Split}
use Rattle.tables.specs.Records.{sections_in, partials_in}
use Rattle.load.specs.Load.{Loaded, names_in}
use Rattle.loaded.specs.Tables.{image_from, sections_from, tables_with, file_names, byte_places, Usable}
use Rattle.loaded.specs.declared.Loaded.{Loaded as Lent}
use Rattle.names.specs.Index.{Indexed}
use Rattle.names.specs.declared.NameIndex.{NameIndex}
use Rattle.symbol_order.specs.Order.{symbol_of, order_of}
use Rattle.sections.specs.Sections.{sections_of}
use Rattle.merge.specs.Merge.{given, merge_all}
use Rattle.common.specs.Common.{common_of}
use Rattle.common.specs.Sections.{bss_in}
use Rattle.gap_splits.specs.Entering.{Filled, Ceilings}
use Rattle.create_gap_splits.specs.Create.{gaps_filled}
use Rattle.validate.specs.Check.{validate}
use Rattle.trim.specs.Trim.{trimmed}

-- `room` is how many splits the table may hold, `names` how many names there may be and of how many bytes
module _ (file : List ℕ) (t : Loaded) (room : ℕ) (names : Ceilings) where
  -- "merges the partial splits in file order", into a table that has none
  unfoldable pub merged : Outcome (List Split)
  merged = merge_all (given (sections_in file t.sections) room) [] (partials_in file t.splits)

  -- "marks common (`update_common_splits` with no start)"
  unfoldable pub with_common : List Split → Outcome (List Split)
  with_common rows = common_of false 0 (bss_in file t.names t.lengths file t.sections) rows

  -- "fills gaps"
  unfoldable pub with_gaps : List Split → Outcome Filled
  with_gaps rows = gaps_filled (image_from file t) (sections_from file t) (given (sections_in file t.sections) room) names (record { names = names_in file t; rows = rows })

  -- "checks", "trims"
  unfoldable pub checked : List Split → Outcome (List Split)
  checked rows = do
    validate (image_from file t).symbol (image_from file t).count rows
    trimmed (image_from file t) (sections_from file t) rows

  -- one after another: the names with those of the gaps' units, and the rows
  unfoldable pub split_table : Outcome Filled
  split_table = do
    partial ← merged
    common ← with_common partial
    full ← with_gaps common
    rows ← checked full.rows
    accepted (record { names = full.names; rows = rows })

-- the tables of a loaded file that this reads: no relocations, and no unit records
abbrev pub split_tables : Lent → Loaded
split_tables l = tables_with l.names.now l.lengths.now l.sections.now l.symbols.now [] l.partials.now []

-- .. and the gaps of a table of its rows filled
abbrev pub gaps_in : Lent → (room : ℕ) → Ceilings → List Split → Outcome Filled
gaps_in l room names rows =
    gaps_filled (image_from l.file.now (split_tables l)) (sections_of l.file.now l.sections.now l.file.now l.images.now)
    (given (sections_in l.file.now l.sections.now) room) names (record { names = file_names l; rows = rows })

-- ---- what is asked

-- the tables of a file that was accepted, with the places of its sections' bytes, its symbol order, and the index of its names
pub record Ready (l : Lent) (index : NameIndex) : Type 0 where
  pub usable : Usable l.file.now (split_tables l)
  pub images_are : l.images.now ≡ byte_places l.sections.now
  pub order_is : l.order.now ≡ order_of (symbol_of l.file.now l.symbols.now) (length l.symbols.now)
  pub indexed : Indexed (file_names l) index.heads.now index.chain.now

-- ---- the rows

-- its section is there, its end is no address above the ceiling, and its unit and its rename are among so many names
pub record Fine (sections names : ℕ) (s : Split) : Type 0 where
  pub section : s.section < sections
  pub end : s.end ≤ 4026531840
  pub unit : s.unit < names
  pub renamed : (s.rename ≡ 65535 → ⊥) → s.rename < names

-- .. and without its end
pub record Homed (sections names : ℕ) (s : Split) : Type 0 where
  pub section : s.section < sections
  pub unit : s.unit < names
  pub renamed : (s.rename ≡ 65535 → ⊥) → s.rename < names
