-- The names of a table in lent columns, and names to read: the definitions of `Stored` over the structs.
use Rattle.std.specs.Prelude.{ℕ, List}
use Rattle.lists.specs.Outcome.{Outcome}
use Rattle.lists.specs.Slices.{SameSlice}
use Rattle.names.specs.declared.Names.{Names}
use Rattle.name_table.specs.declared.columns.NameColumns.{NameColumns}
use Rattle.name_table.specs.declared.arrays.NameArrays.{NameArrays}
use Rattle.name_table.specs.Stored.{Stored, Stores, Readable}

abbrev pub StoredIn : (ends bytes : List ℕ) → NameColumns → ℕ → Type 0
StoredIn ends bytes c n = Stored ends bytes c.places.now c.lengths.now c.heads.now c.chain.now n

abbrev pub StoresIn : (answer want : Outcome (Unit {0})) → (ends bytes : List ℕ) → NameColumns → ℕ → Type 0
StoresIn answer want ends bytes c n = Stores answer want ends bytes c.places.now c.lengths.now c.heads.now c.chain.now n

-- the same columns are lent: the references to them, and their lengths
pub record SameLent (before after : NameColumns) : Type 0 where
  pub places : SameSlice before.places after.places
  pub lengths : SameSlice before.lengths after.lengths
  pub heads : SameSlice before.heads after.heads
  pub chain : SameSlice before.chain after.chain

-- ---- names to read
abbrev pub ReadableIn : Names → Type 0
ReadableIn n = Readable n.bytes.now n.places.now n.lengths.now

-- ---- an entry's own arrays
abbrev pub StoredOwn : (ends bytes : List ℕ) → NameArrays → ℕ → Type 0
StoredOwn ends bytes a n = Stored ends bytes a.places a.lengths a.heads a.chain n

abbrev pub StoresOwn : (answer want : Outcome (Unit {0})) → (ends bytes : List ℕ) → NameArrays → ℕ → Type 0
StoresOwn answer want ends bytes a n = Stores answer want ends bytes a.places a.lengths a.heads a.chain n
