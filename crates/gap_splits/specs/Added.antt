-- The names that are added stand beside those of the tables, which stay where they lie: in three lent columns, `count` of them with `used` bytes in all.
use Rattle.std.specs.Prelude.{ℕ, ◌≤◌, ◌≡◌, List, length}
use Rattle.names.specs.Names.{names_of}
use Rattle.names.specs.Append.{Packed, Columns as Beside}
use Rattle.gap_splits.specs.Entering.{bytes_of}

-- their columns
abbrev pub beside : (bytes places lengths : List ℕ) → Beside
beside bytes places lengths = record { bytes = bytes; places = places; lengths = lengths }

-- the first `count` of them
abbrev pub added : Beside → (count : ℕ) → List (List ℕ)
added c count = names_of c.bytes c.places c.lengths count

-- so many names of so many bytes may be added, and the columns have room for them
pub record Room (c : Beside) (most most_bytes : ℕ) : Type 0 where
  pub few : most ≤ 4096
  pub short : most_bytes ≤ 65535
  pub long_places : most ≤ length c.places
  pub long_lengths : most ≤ length c.lengths
  pub long_bytes : most_bytes ≤ length c.bytes

-- `count` are added, and have `used` bytes
pub record Stand (c : Beside) (count used most most_bytes : ℕ) : Type 0 where
  pub room : Room c most most_bytes
  pub packed : Packed c.bytes c.places c.lengths count used
  pub sum : used ≡ bytes_of (added c count)
  pub few : count ≤ most
  pub short : used ≤ most_bytes
