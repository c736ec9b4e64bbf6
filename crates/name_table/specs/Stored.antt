-- What the check of a name table leaves in the columns that are lent to it, and what a name table that passed is: the law `names_passed` of
-- proofs/Laws.antt.
use Rattle.std.specs.Prelude.{ℕ, ◌/◌, ◌%◌, ◌<◌, ◌≤◌, ◌≡◌, List, map, ◌≢◌, length, get_or, take}
use Rattle.lists.specs.Outcome.{Outcome, accepted}
use Rattle.lists.specs.Rows.{tabulate}
use Rattle.names.specs.Names.{Named, names_of}
use Rattle.names.specs.Index.{Indexed}
use Rattle.name_table.specs.NameTable.{start_of, end_of, name_in, stage_names}

-- where the first n names start
unfoldable pub name_starts : (ends : List ℕ) → ℕ → List ℕ
name_starts ends n = tabulate (start_of ends) 0 n

-- how many bytes each of the first n names has
unfoldable pub name_lengths : (ends bytes : List ℕ) → ℕ → List ℕ
name_lengths ends bytes n = map length (stage_names ends bytes n)

-- how many bytes each name of a stage's table has
abbrev pub stage_lengths : (ends bytes : List ℕ) → List ℕ
stage_lengths ends bytes = name_lengths ends bytes (length ends / 2)

-- the lent columns have room for at most `most` names
pub record Room (most : ℕ) (places lengths heads chain : List ℕ) : Type 0 where
  pub few : most ≤ 4096
  pub places_long : 4096 ≤ length places
  pub lengths_long : 4096 ≤ length lengths
  pub heads_long : length heads ≡ 8192
  pub chain_long : 4096 ≤ length chain

-- the columns hold the first n names, and these are indexed
pub record Stored (ends bytes places lengths heads chain : List ℕ) (n : ℕ) : Type 0 where
  pub starts : take n places ≡ name_starts ends n
  pub sizes : take n lengths ≡ name_lengths ends bytes n
  pub named : Named bytes places lengths n
  pub names : names_of bytes places lengths n ≡ stage_names ends bytes n
  pub index : Indexed (stage_names ends bytes n) heads chain

-- names to read, in columns of one length
pub record Readable (bytes places lengths : List ℕ) : Type 0 where
  pub named : Named bytes places lengths (length places)
  pub paired : length lengths ≡ length places

-- what was answered, and the columns if it was accepted
pub record Stores (answer want : Outcome (Unit {0})) (ends bytes places lengths heads chain : List ℕ) (n : ℕ) : Type 0 where
  pub said : answer ≡ want
  pub stored : want ≡ accepted tt → Stored ends bytes places lengths heads chain n

-- r is this number, of two bytes
pub record Number (want r : ℕ) : Type 0 where
  pub is : r ≡ want
  pub small : r < 65536

-- a name table that passed: "a name 1 to 128 bytes .. a symbol's also empty", "bytes 0x21..0x7E", and no two equal names
pub record Passed (ceiling : ℕ) (ends bytes : List ℕ) : Type 0 where
  pub whole : length ends % 2 ≡ 0
  pub few : length ends / 2 ≤ ceiling
  pub rising : (k : ℕ) → k < length ends / 2 → start_of ends k ≤ end_of ends k
  pub within : (k : ℕ) → k < length ends / 2 → end_of ends k ≤ length bytes
  pub short : (k : ℕ) → k < length ends / 2 → length (name_in ends bytes k) ≤ 128
  pub good : (k i : ℕ) → k < length ends / 2 → i < length (name_in ends bytes k)
      → (33 ≤ get_or (name_in ends bytes k) i 0) × (get_or (name_in ends bytes k) i 0 ≤ 126)
  pub different : (j k : ℕ) → j < k → k < length ends / 2 → name_in ends bytes j ≢ name_in ends bytes k
