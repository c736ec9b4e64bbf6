-- A split table as packed records, in and out: `split_bytes` and `split_at` of obj say a record's bytes and what they are read as.
-- Callers use the laws of proofs/Bytes.antt: `splits_back`, that the records written are read as the rows.
use Rattle.std.specs.Prelude.{ℕ, ◌<◌, ◌≤◌, ◌≡◌, false, List, [], ◌∷◌, ◌++◌, get_or, length}
use Rattle.align.specs.Align.{bad_align}
use Rattle.obj.specs.Records.{partial_numbered, split_at, Held, partial_width, split_width}
use Rattle.obj.specs.Bytes.{split_bytes}
use Rattle.obj.specs.declared.Split.{Split}

-- the records of a table, one after another
unfoldable pub table_bytes : List Split → List ℕ
table_bytes [] = []
table_bytes (s ∷ l) = split_bytes s ++ table_bytes l

-- each field of s has its width
pub record Fits (s : Split) : Type 0 where
  pub section : s.section < 65536
  pub start : s.start < 4294967296
  pub end : s.end < 4294967296
  pub unit : s.unit < 65536
  pub alignment : s.alignment < 4294967296
  pub flags : s.flags < 256
  pub rename : s.rename < 65536
  pub origin : s.origin < 65536

-- a table of splits that can be kept in columns: its records lie within the lent bytes, and no alignment is bad
pub record Loadable (b places : List ℕ) : Type 0 where
  pub held : (k : ℕ) → k < length places → Held split_width b places k
  pub aligned : (k : ℕ) → k < length places → bad_align (split_at b (get_or places k 0)).alignment ≡ false

-- a list of partial splits that can be merged: its records lie within the lent bytes, no alignment is bad, and each record's number is an origin
pub record Partials (b places : List ℕ) : Type 0 where
  pub few : length places ≤ 65535
  pub held : (k : ℕ) → k < length places → Held partial_width b places k
  pub aligned : (k : ℕ) → k < length places → bad_align (partial_numbered b k (get_or places k 0)).alignment ≡ false
