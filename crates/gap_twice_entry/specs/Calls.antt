-- Filling twice over the bytes of the entry `create_gap_splits` (document 02, (k)): a call, what it left, and the call after it, which is lent what the first left and counted.
-- "bytes past the last end are no fault" (name_table/specs/NameTable.antt), so more name bytes may be lent than were counted.
-- The theorems are `called_again` and `called_twice` of proofs/Theorems.antt.
use Rattle.std.specs.Prelude.{ℕ, ◌*◌, ◌/◌, ◌≤◌, ◌≡◌, List, length, take}
use Rattle.lists.specs.Outcome.{Outcome}
use Rattle.fields.specs.Fields.{le16}
use Rattle.name_table.specs.NameTable.{stage_names}
use Rattle.stage_tables.specs.StageTables.{stage_splits}
use Rattle.stage_names.specs.StageNames.{names_room, bytes_room}
use Rattle.stage_splits.specs.StageSplits.{room_of}
use Rattle.gap_splits.specs.Entering.{Filled}
use Rattle.entry_create_gap_splits.specs.Entry.{gap_splits_of, Leaves}
use Rattle.obj.specs.Records.{split_width}

-- ---- a call

-- what is lent: the tables, and the outputs by their sizes
pub record Call : Type 0 where
  pub ends : List ℕ
  pub bytes : List ℕ
  pub sections : List ℕ
  pub places : List ℕ
  pub image : List ℕ
  pub symbols : List ℕ
  pub splits : List ℕ
  pub ends_size : ℕ
  pub bytes_size : ℕ
  pub size : ℕ
  pub counts_size : ℕ

-- what the entry's definition gives for it
abbrev pub outcome : Call → Outcome Filled
outcome c = gap_splits_of c.ends c.bytes c.sections c.places c.image c.symbols c.splits c.ends_size c.bytes_size c.size

-- the list that it fills: the names and the splits of the lent tables
abbrev pub list_of : Call → Filled
list_of c = record { names = stage_names c.ends c.bytes (length c.ends / 2); rows = stage_splits c.splits }

-- the answer, and every byte of the outputs, by the entry's contract
pub record Left (c : Call) : Type 0 where
  pub answer : ℕ
  pub ends : List ℕ
  pub bytes : List ℕ
  pub splits : List ℕ
  pub counts : List ℕ
  pub leaves : Leaves (outcome c) c.ends_size c.bytes_size c.size c.counts_size answer ends bytes splits counts

-- ---- the call after it

-- the name ends and the splits that were counted: count 0 is that of the names, count 1 that of their bytes, count 2 that of the splits
abbrev pub ends_counted : (counts ends : List ℕ) → List ℕ
ends_counted counts ends = take (2 * le16 counts 0) ends

abbrev pub splits_counted : (counts splits : List ℕ) → List ℕ
splits_counted counts splits = take (split_width * le16 counts 4) splits

-- the call after: what was counted, with so many of the name bytes; the same sections, symbols and sizes of outputs
abbrev pub again : (c : Call) → Left c → (m : ℕ) → Call
again c r m = record {
  ends = ends_counted r.counts r.ends;
  bytes = take m r.bytes;
  sections = c.sections;
  places = c.places;
  image = c.image;
  symbols = c.symbols;
  splits = splits_counted r.counts r.splits;
  ends_size = c.ends_size;
  bytes_size = c.bytes_size;
  size = c.size;
  counts_size = c.counts_size;
}

-- "the split and name tables used have the same ceilings": those of outputs of so many bytes are not below those of outputs of so many before
pub record NoSmaller (ends_size bytes_size size ends_size' bytes_size' size' : ℕ) : Type 0 where
  pub names : names_room ends_size ≤ names_room ends_size'
  pub bytes : bytes_room bytes_size ≤ bytes_room bytes_size'
  pub splits : room_of size ≤ room_of size'

-- "is accepted and changes nothing": the second answer is 0, and the outputs are the same, byte for byte
pub record Unchanged (c c' : Call) (r : Left c) (s : Left c') : Type 0 where
  pub accepts : s.answer ≡ 0
  pub ends : s.ends ≡ r.ends
  pub bytes : s.bytes ≡ r.bytes
  pub splits : s.splits ≡ r.splits
  pub counts : s.counts ≡ r.counts
