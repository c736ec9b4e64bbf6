-- A name more in a name table: "28 name table full"; "4,096 names of 65,535 bytes in all"; "A shorter lent output table has its own
-- length as ceiling". The names lie one after another, so each new one starts where the used bytes end.
use Rattle.std.specs.Prelude.{ℕ, ◌+◌, ◌≤◌, ◌<◌, ◌≡◌, List, [], ◌∷◌, ◌++◌, Bool, true, false, not, length, get_or, leb, ltb}
use Rattle.lists.specs.Rows.{any_of}
use Rattle.names.specs.Names.{names_of, Named}

-- the first n names are named, and all lie below `used`
pub record Packed (bytes places lengths : List ℕ) (n used : ℕ) : Type 0 where
  pub named : Named bytes places lengths n
  pub below : (k : ℕ) → k < n → get_or places k 0 + get_or lengths k 0 ≤ used

-- no place is free for name n, or its bytes would end above a ceiling
unfoldable pub table_full : (bytes places lengths : List ℕ) → (n end maxNames maxBytes : ℕ) → Bool
table_full bytes places lengths n end maxNames maxBytes =
    any_of (leb maxNames n ∷ leb (length places) n ∷ leb (length lengths) n ∷ ltb maxBytes end ∷ ltb (length bytes) end ∷ [])

-- the lent columns of a name table
pub record Columns : Type 0 where
  pub bytes : List ℕ
  pub places : List ℕ
  pub lengths : List ℕ

-- what the columns are after name n was appended, or was not because the table is full
pub record Appended (before after : Columns) (used n : ℕ) (name : List ℕ) (maxNames maxBytes : ℕ) (r : Bool) : Type 0 where
  pub is : r ≡ not (table_full before.bytes before.places before.lengths n (used + length name) maxNames maxBytes)
  pub fits : r ≡ true → (n < maxNames) × (used + length name ≤ maxBytes)
  pub names :
      r ≡ true
      → names_of after.bytes after.places after.lengths (n + 1) ≡ names_of before.bytes before.places before.lengths n ++ (name ∷ [])
  pub packed : r ≡ true → Packed after.bytes after.places after.lengths (n + 1) (used + length name)
  pub unchanged : r ≡ false → after ≡ before
  pub long_bytes : length after.bytes ≡ length before.bytes
  pub long_places : length after.places ≡ length before.places
  pub long_lengths : length after.lengths ≡ length before.lengths
