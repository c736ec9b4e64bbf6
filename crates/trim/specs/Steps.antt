-- What the functions of the trim take and give.
use Rattle.std.specs.Prelude.{ℕ, ◌+◌, ◌-◌, ◌≤◌, ◌<◌, ◌≡◌, List, false, length, eqb}
use Rattle.lists.specs.Outcome.{Outcome, accepted, refused, ◌>>=◌}
use Rattle.lists.specs.Rows.{tabulate, some}
use Rattle.align.specs.Align.{align_up}
use Rattle.obj.specs.Answers.{Answer}
use Rattle.std.specs.Prelude.{Result, Ok, Err}
use Rattle.obj.specs.declared.Split.{Split}
use Rattle.symbol_order.specs.Order.{symbol_of}
use Rattle.symbols.specs.Sound.{Sound}
use Rattle.sections.specs.Image.{Tables}
use Rattle.sections.specs.Sections.{Heads}
use Rattle.sections.specs.Alignment.{Chosen}
use Rattle.splits.specs.Columns.{Columns, row_at}
use Rattle.symbols.specs.declared.Backwards.{Backwards}
use Rattle.trim.specs.Trim.{alongside}

-- what an answer means, to a range asked of section n from `start` on
abbrev pub asked_meaning : {A : Type 0} → (n start : ℕ) → Result A Backwards → Outcome A
asked_meaning n start (Ok a) = accepted a
asked_meaning n start (Err e) = refused 11 n start

-- a value aligned up by the alignment that was chosen
abbrev pub up_by : (value : ℕ) → Outcome Chosen → Outcome ℕ
up_by value m = m >>= λ chosen. accepted (align_up value chosen.value)

-- an alignment whose value is not used
abbrev pub unused : Outcome Chosen → Outcome (Unit {0})
unused m = m >>= λ chosen. accepted tt

-- an answer with the value that was made, if it was accepted
abbrev pub seen : {A : Type 0} → Answer → A → Outcome A
seen (Ok u) a = accepted a
seen (Err r) a = refused r.number r.section r.address

-- symbols, names and heads as a range of symbols and an alignment are asked of them
pub record Asks (b places order name_bytes name_places name_lengths heads head_places : List ℕ) : Type 0 where
  pub tables : Tables b places order name_bytes name_places name_lengths
  pub sound : Sound (symbol_of b places) (length places)
  pub headed : Heads heads head_places name_places

-- s lies in one of so many sections, and "end above 0xF0000000" is not so: what check 7 leaves of a split
pub record Placed (sections : ℕ) (s : Split) : Type 0 where
  pub section : s.section < sections
  pub end : s.end ≤ 4026531840

-- .. each of the first n rows
pub record AllPlaced (sections : ℕ) (c : Columns) (n : ℕ) : Type 0 where
  pub each : (k : ℕ) → k < n → Placed sections (row_at c k)

-- r is the first place from `from` on whose row does not start where s does
pub record Past (s : Split) (c : Columns) (n from r : ℕ) : Type 0 where
  pub is : r ≡ from + alongside s (tabulate (row_at c) from (n - from))
  pub past : from ≤ r
  pub small : r ≤ n

-- the section's last row is the one at place k
pub record LastOf (section : ℕ) (c : Columns) (n k : ℕ) : Type 0 where
  pub small : k < n
  pub none_after : some (λ y. eqb y.section section) (tabulate (row_at c) (k + 1) (n - (k + 1))) ≡ false
  pub is : (row_at c k).section ≡ section
