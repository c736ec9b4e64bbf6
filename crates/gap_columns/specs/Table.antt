-- The columns that are lent together, and the gaps that they mean: `found_of` of columns to read, `found_in` of a table to write.
use Rattle.std.specs.Prelude.{◌≡◌, ◌≤◌, ℕ, List, length}
use Rattle.lists.specs.Slices.{SameSlice}
use Rattle.lists.specs.Sort.{Rising}
use Rattle.gap_columns.specs.Columns.{Gap, key_of, placed, gap_of, gaps_in}
use Rattle.gap_columns.specs.declared.gap_table.GapColumns.{GapColumns}
use Rattle.gap_columns.specs.declared.gap_table.GapTable.{GapTable}

abbrev pub found_of : GapColumns → List Gap
found_of s = gaps_in s.keys.now s.ends.now s.count

abbrev pub found_in : GapTable → List Gap
found_in t = gaps_in t.keys.now t.ends.now t.count

-- s shows the gaps of t
pub record Shows (t : GapTable) (s : GapColumns) : Type 0 where
  pub keys : s.keys.now ≡ t.keys.now
  pub ends : s.ends.now ≡ t.ends.now
  pub count : s.count ≡ t.count

-- the same columns are lent, of the same lengths, with the same room
pub record SameLent (t u : GapTable) : Type 0 where
  pub room : u.room ≡ t.room
  pub keys : SameSlice t.keys u.keys
  pub ends : SameSlice t.ends u.ends

-- the table has room for one gap among those found
pub record Placing (t : GapTable) (key end : ℕ) : Type 0 where
  pub rising : Rising key_of (found_in t)
  pub fits : length (placed (gap_of key end) (found_in t)) ≤ t.room
