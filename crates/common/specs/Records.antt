-- The rows of the split table as a table of 1,024 split records, and back: "Marking common works on a lent slice of split records". Of a record that is
-- written back only its rest is stored; its start, end and unit still stand in their columns.
use Rattle.std.specs.Prelude.{ℕ, ◌<◌, ◌≡◌, List, get_or}
use Rattle.obj.specs.declared.Split.{Split}
use Rattle.obj.specs.Nothing.{no_split}
use Rattle.splits.specs.Columns.{Good, Columns}

-- the first n records have the start, end and unit that the columns have, and an alignment that is none or good
pub record Kept (c : Columns) (table : List Split) (n : ℕ) : Type 0 where
  pub start : (k : ℕ) → k < n → (get_or table k no_split).start ≡ get_or c.starts k 0
  pub end : (k : ℕ) → k < n → (get_or table k no_split).end ≡ get_or c.ends k 0
  pub unit : (k : ℕ) → k < n → (get_or table k no_split).unit ≡ get_or c.units k 0
  pub aligned : (k : ℕ) → k < n → Good (get_or table k no_split).alignment
