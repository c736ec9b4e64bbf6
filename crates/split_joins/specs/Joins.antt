-- When a join over a split's range and the push of that split are one move: the split takes the place of the rows in its range, and the rows behind them move once.
use Rattle.std.specs.Prelude.{ℕ, ◌-◌, ◌≤◌, ◌<◌, ◌≡◌, List, [], true, false, length, get_or}
use Rattle.lists.specs.Rows.{tabulate, keep_if}
use Rattle.obj.specs.declared.Split.{Split}
use Rattle.splits.specs.Columns.{Columns, row_at, rows}
use Rattle.splits.specs.Questions.{within, of_unit}
use Rattle.split_edits.specs.Edits.{after, pushed, joined}

-- of the first n places none but those from `first` up to `stop` has the unit v, unless that is `unit`
pub record Alone (u : ℕ → ℕ) (n first stop unit v : ℕ) : Type 0 where
  pub before : (k : ℕ) → k < first → u k ≡ v → v ≡ unit
  pub behind : (k : ℕ) → stop ≤ k → k < n → u k ≡ v → v ≡ unit

-- .. and so for each unit of theirs
abbrev pub Apart : (ℕ → ℕ) → ℕ → ℕ → ℕ → ℕ → Type 0
Apart u n first stop unit = (i : ℕ) → first ≤ i → i < stop → Alone u n first stop unit (u i)

-- s lies between the rows before `first` and those from `stop` on
pub record Between (s : Split) (c : Columns) (n first stop : ℕ) : Type 0 where
  pub before : (k : ℕ) → k < first → after s (row_at c k) ≡ false
  pub behind : stop < n → after s (row_at c stop) ≡ true

-- s may take the place of the rows from `first` up to `stop`, where those are the first in its range: no later row is in it, no other is of its unit in the
-- section or takes another name, and s lies where they do
pub record TakesPlace (s : Split) (c : Columns) (n first stop : ℕ) : Type 0 where
  pub some : first < stop
  pub ranged : s.start < s.end
  pub none : (k : ℕ) → stop ≤ k → k < n → within s.section s.start s.end (row_at c k) ≡ false
  pub own_before : keep_if (of_unit s.section s.unit) (tabulate (row_at c) 0 first) ≡ []
  pub own_behind : keep_if (of_unit s.section s.unit) (tabulate (row_at c) stop (n - stop)) ≡ []
  pub apart : Apart (λ (k : ℕ). get_or c.units k 0) n first stop s.unit
  pub lies : Between s c n first stop

-- the table after a join over the range of s
abbrev pub joined_by : Split → List Split → List Split
joined_by s l = joined s.section s.start s.end s.unit l

-- from columns c₀ to c, n rows became r by a join over the range of s, which leaves no row of its unit in the section, and a push of s
pub record AtOnce (s : Split) (c₀ c : Columns) (n r : ℕ) : Type 0 where
  pub is : rows c r ≡ pushed s (joined_by s (rows c₀ n))
  pub no_own : keep_if (of_unit s.section s.unit) (joined_by s (rows c₀ n)) ≡ []
  pub fewer : length (joined_by s (rows c₀ n)) < n
  pub small : r ≤ n
