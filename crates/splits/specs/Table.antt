-- The columns that are lent together, and the rows that they mean: `columns_of` and `rows_of` of columns to read, `columns_in` and `rows_in` of a table to write,
-- and the like of a table of which one column is written.
use Rattle.std.specs.Prelude.{◌+◌, ◌≤◌, ◌≡◌, List}
use Rattle.lists.specs.Slices.{SameSlice}
use Rattle.obj.specs.declared.Split.{Split}
use Rattle.splits.specs.Columns.{Columns, columns, rows}
use Rattle.splits.specs.declared.split_table.SplitColumns.{SplitColumns}
use Rattle.splits.specs.declared.split_table.SplitTable.{SplitTable}
use Rattle.splits.specs.declared.one_column.SplitEnds.{SplitEnds}
use Rattle.splits.specs.declared.one_column.SplitUnits.{SplitUnits}
use Rattle.splits.specs.declared.one_column.SplitRest.{SplitRest}

abbrev pub columns_of : SplitColumns → Columns
columns_of s = columns s.starts.now s.ends.now s.units.now s.rest.now

-- the table
abbrev pub rows_of : SplitColumns → List Split
rows_of s = rows (columns_of s) s.count

abbrev pub columns_in : SplitTable → Columns
columns_in t = columns t.starts.now t.ends.now t.units.now t.rest.now

-- the table
abbrev pub rows_in : SplitTable → List Split
rows_in t = rows (columns_in t) t.count

-- s shows the table t
pub record Shows (t : SplitTable) (s : SplitColumns) : Type 0 where
  pub starts : s.starts.now ≡ t.starts.now
  pub ends : s.ends.now ≡ t.ends.now
  pub units : s.units.now ≡ t.units.now
  pub rest : s.rest.now ≡ t.rest.now
  pub count : s.count ≡ t.count

-- the columns of s, with perhaps another count of rows
pub record SameColumns (s r : SplitColumns) : Type 0 where
  pub starts : r.starts.now ≡ s.starts.now
  pub ends : r.ends.now ≡ s.ends.now
  pub units : r.units.now ≡ s.units.now
  pub rest : r.rest.now ≡ s.rest.now

-- the same columns are lent, of the same lengths, with the same room
pub record SameLent (t u : SplitTable) : Type 0 where
  pub room : u.room ≡ t.room
  pub starts : SameSlice t.starts u.starts
  pub ends : SameSlice t.ends u.ends
  pub units : SameSlice t.units u.units
  pub rest : SameSlice t.rest u.rest

-- as many rows
pub record SameSize (t u : SplitTable) : Type 0 where
  pub count : u.count ≡ t.count
  pub lent : SameLent t u

-- one row more
pub record Larger (t u : SplitTable) : Type 0 where
  pub count : u.count ≡ t.count + 1
  pub lent : SameLent t u

-- not more rows
pub record Smaller (t u : SplitTable) : Type 0 where
  pub count : u.count ≤ t.count
  pub lent : SameLent t u

-- from t to u nothing changed
pub record Unchanged (t u : SplitTable) : Type 0 where
  pub columns : columns_in u ≡ columns_in t
  pub count : u.count ≡ t.count
  pub lent : SameLent t u

-- ---- a table of which one column is written
-- Three records, for three columns: one over the column would have to call the others first, second and third, and these names are what callers cite.

abbrev pub ends_columns : SplitEnds → Columns
ends_columns t = columns t.starts.now t.ends.now t.units.now t.rest.now

-- the table
abbrev pub ends_rows : SplitEnds → List Split
ends_rows t = rows (ends_columns t) t.count

-- from t to u only the ends of rows changed, and the column is the one that was lent
pub record OnlyEnds (t u : SplitEnds) : Type 0 where
  pub starts : u.starts.now ≡ t.starts.now
  pub units : u.units.now ≡ t.units.now
  pub rest : u.rest.now ≡ t.rest.now
  pub ends : SameSlice t.ends u.ends
  pub count : u.count ≡ t.count

abbrev pub units_columns : SplitUnits → Columns
units_columns t = columns t.starts.now t.ends.now t.units.now t.rest.now

-- the table
abbrev pub units_rows : SplitUnits → List Split
units_rows t = rows (units_columns t) t.count

-- from t to u only the units of rows changed, and the column is the one that was lent
pub record OnlyUnits (t u : SplitUnits) : Type 0 where
  pub starts : u.starts.now ≡ t.starts.now
  pub ends : u.ends.now ≡ t.ends.now
  pub rest : u.rest.now ≡ t.rest.now
  pub units : SameSlice t.units u.units
  pub count : u.count ≡ t.count

abbrev pub rest_columns : SplitRest → Columns
rest_columns t = columns t.starts.now t.ends.now t.units.now t.rest.now

-- the table
abbrev pub rest_rows : SplitRest → List Split
rest_rows t = rows (rest_columns t) t.count

-- from t to u only the rest of rows changed, and the column is the one that was lent
pub record OnlyRest (t u : SplitRest) : Type 0 where
  pub starts : u.starts.now ≡ t.starts.now
  pub ends : u.ends.now ≡ t.ends.now
  pub units : u.units.now ≡ t.units.now
  pub rest : SameSlice t.rest u.rest
  pub count : u.count ≡ t.count
