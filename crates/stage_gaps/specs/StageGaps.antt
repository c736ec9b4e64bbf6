-- The gap stage over tables that passed: from the splits on, what is answered and what is left in the lent outputs, a name table and a split table. What the functions
-- are given; `from_splits` is the end of the entry's definition.
use Rattle.std.specs.Prelude.{ℕ, ◌+◌, ◌*◌, ◌≤◌, ◌≡◌, List, [], ◌∷◌, length}
use Rattle.lists.specs.Outcome.{Outcome, accepted, refused, ◌>>◌}
use Rattle.lists.specs.Tables.{laid}
use Rattle.obj.specs.Answers.{meaning}
use Rattle.obj.specs.Answers.{Answer}
use Rattle.obj.specs.declared.Section.{Section}
use Rattle.obj.specs.declared.Split.{Split}
use Rattle.obj.specs.declared.Table.{Table}
use Rattle.names.specs.Names.{names_of, Named}
use Rattle.names.specs.Index.{Indexed}
use Rattle.names.specs.declared.Names.{Names}
use Rattle.names.specs.declared.NameIndex.{NameIndex}
use Rattle.outputs.specs.Outputs.{halves, counts_of}
use Rattle.tables.specs.Tables.{AllHeld}
use Rattle.tables.specs.Records.{sections_in}
use Rattle.symbol_order.specs.Order.{symbol_of}
use Rattle.symbols.specs.Sound.{Sound}
use Rattle.stage_tables.specs.StageTables.{stage_splits, splits_check}
use Rattle.stage_names.specs.StageNames.{ends_from, flat}
use Rattle.sections.specs.Image.{Image, image_in, TablesIn}
use Rattle.sections.specs.Sections.{Sections, sections_of, Kept}
use Rattle.sections.specs.declared.Obj.{Obj}
use Rattle.splits.specs.Bytes.{table_bytes}
use Rattle.stage_splits.specs.StageSplits.{room_of, said}
use Rattle.merge.specs.Merge.{given}
use Rattle.gap_splits.specs.Entering.{Filled, Ceilings}
use Rattle.names.specs.Listed.{names_in}
use Rattle.create_gap_splits.specs.Create.{gaps_filled, Short}
use Rattle.stage_gaps.specs.declared.GapOutputs.{GapOutputs}

-- ---- the outputs

-- the tables that an outcome leaves: none after a refusal
abbrev pub filled_of : Outcome Filled → Filled
filled_of (accepted t) = t
filled_of (refused number section address) = record { names = []; rows = [] }

-- these tables are in the outputs, and their numbers are in the counts
pub record Laid (t : Filled) (ends_size bytes_size size counts_size : ℕ) (out_ends out_bytes out counts : List ℕ) : Type 0 where
  pub ends : out_ends ≡ laid ends_size (halves (ends_from 0 t.names))
  pub bytes : out_bytes ≡ laid bytes_size (flat t.names)
  pub splits : out ≡ laid size (table_bytes t.rows)
  pub counted : counts ≡ counts_of counts_size (length t.names ∷ length (flat t.names) ∷ length t.rows ∷ [])

-- .. in outputs that were `before` and are `after`
abbrev pub LaidIn : Filled → (before after : GapOutputs) → Type 0
LaidIn t before after =
    Laid t (length before.ends.now) (length before.bytes.now) (length before.splits.now) (length before.counts.now)
    after.ends.now after.bytes.now after.splits.now after.counts.now

-- the outputs are still those that were lent, of the same lengths
pub record SameLent (before after : GapOutputs) : Type 0 where
  pub ends : after.ends.ghost_name ≡ before.ends.ghost_name
  pub bytes : after.bytes.ghost_name ≡ before.bytes.ghost_name
  pub splits : after.splits.ghost_name ≡ before.splits.ghost_name
  pub counts : after.counts.ghost_name ≡ before.counts.ghost_name
  pub ends_size : length after.ends.now ≡ length before.ends.now
  pub bytes_size : length after.bytes.now ≡ length before.bytes.now
  pub size : length after.splits.now ≡ length before.splits.now
  pub counts_size : length after.counts.now ≡ length before.counts.now

-- ---- inside the entry

-- what was answered, and the outputs if it was accepted; after a refusal they are still to be cleared
pub record Gives (o : Outcome Filled) (a : Answer) (ends_size bytes_size size counts_size : ℕ) (out_ends out_bytes out counts : List ℕ) : Type 0 where
  pub answered : meaning a ≡ said o
  pub given_back : (t : Filled) → o ≡ accepted t → Laid t ends_size bytes_size size counts_size out_ends out_bytes out counts

abbrev pub GivesIn : Outcome Filled → Answer → (before after : GapOutputs) → Type 0
GivesIn o a before after =
    Gives o a (length before.ends.now) (length before.bytes.now) (length before.splits.now) (length before.counts.now)
    after.ends.now after.bytes.now after.splits.now after.counts.now

-- from the splits on, over symbols that passed
unfoldable pub from_splits : (lengths : List ℕ) → (heads : List Section) → Image → Sections → Ceilings → (names : List (List ℕ)) → (splits : List ℕ) → (size : ℕ) → Outcome Filled
from_splits lengths heads g sections room names splits size = do
  splits_check (room_of size) lengths heads splits
  gaps_filled g sections (given heads (room_of size)) room (record { names = names; rows = stage_splits splits })

-- .. over lent tables
abbrev pub stage_of : Obj → (image : Table) → Ceilings → (splits : List ℕ) → (size : ℕ) → Outcome Filled
stage_of obj image room splits size =
    from_splits obj.names.lengths.now (sections_in obj.heads.bytes.now obj.heads.places.now) (image_in obj)
    (sections_of obj.heads.bytes.now obj.heads.places.now image.bytes.now image.places.now) room (names_in obj.names) splits size

-- the filling of the gaps between rows, over lent tables: at most so many rows, and so many names
abbrev pub filling_of : Obj → (image : Table) → (rows_room : ℕ) → Ceilings → List Split → Outcome Filled
filling_of obj image rows_room room rows =
    gaps_filled (image_in obj) (sections_of obj.heads.bytes.now obj.heads.places.now image.bytes.now image.places.now)
    (given (sections_in obj.heads.bytes.now obj.heads.places.now) rows_room) room (record { names = names_in obj.names; rows = rows })

-- ---- what is asked

-- the names are in columns of one length, and are indexed
pub record NamesRead (name_bytes name_places name_lengths buckets chain : List ℕ) : Type 0 where
  pub named : Named name_bytes name_places name_lengths (length name_places)
  pub paired : length name_lengths ≡ length name_places
  pub indexed : Indexed (names_of name_bytes name_places name_lengths (length name_places)) buckets chain

abbrev pub NamesIn : Names → NameIndex → Type 0
NamesIn names index = NamesRead names.bytes.now names.places.now names.lengths.now index.heads.now index.chain.now

-- the sections that passed
pub record Headed (heads head_places image image_places name_bytes name_places name_lengths : List ℕ) : Type 0 where
  pub all : AllHeld 15 heads head_places
  pub kept : Kept heads head_places image image_places name_places
  pub short : Short heads head_places name_bytes name_places name_lengths

abbrev pub HeadedIn : (heads image : Table) → Names → Type 0
HeadedIn heads image names = Headed heads.bytes.now heads.places.now image.bytes.now image.places.now names.bytes.now names.places.now names.lengths.now

-- so many names may be added, of so many bytes, and the outputs hold them all
pub record Space (base : List (List ℕ)) (most most_bytes ends_size bytes_size : ℕ) : Type 0 where
  pub few : length base + most ≤ 4096
  pub short : length (flat base) + most_bytes ≤ 65535
  pub long_ends : 2 * (length base + most) ≤ ends_size
  pub long_bytes : length (flat base) + most_bytes ≤ bytes_size

abbrev pub SpaceIn : Names → (most most_bytes : ℕ) → GapOutputs → Type 0
SpaceIn names most most_bytes outputs = Space (names_in names) most most_bytes (length outputs.ends.now) (length outputs.bytes.now)

-- all tables but the splits passed
pub record Passed (obj : Obj) (index : NameIndex) (image : Table) : Type 0 where
  pub tables : TablesIn obj
  pub sound : Sound (symbol_of obj.symbols.bytes.now obj.symbols.places.now) (length obj.symbols.places.now)
  pub few : length obj.symbols.places.now ≤ 4096
  pub names : NamesIn obj.names index
  pub headed : HeadedIn obj.heads image obj.names
