-- What is said of the tables that the filling of gaps leaves. The theorems: proofs/Tables.antt, proofs/Covers.antt, proofs/AllGaps.antt.
use Rattle.std.specs.Prelude.{ℕ, ◌≤◌, ◌<◌, ◌≡◌, ◌⊎◌, length, get_or}
use mathlib.Core.List.{List, [], Memᴰ, map}
use Rattle.lists.specs.Sort.{All}
use Rattle.obj.specs.declared.Section.{Section}
use Rattle.obj.specs.declared.Split.{Split}
use Rattle.tables.specs.Records.{split_fault}
use Rattle.sections.specs.Sections.{Sections}
use Rattle.merge.specs.Merge.{section_end}
use Rattle.gap_columns.specs.Columns.{Gap}
use Rattle.gap_splits.specs.Entering.{Filled, Ceilings, bytes_of, gap_split}

-- no split has a fault as a stage's split: "7 split" does not come
abbrev pub Faultless : (heads : List Section) → Filled → Type 0
Faultless heads t = (k : ℕ) → k < length t.rows → split_fault (map length t.names) heads t.rows k ≡ 0

-- "end above 0xF0000000" is so of no section
abbrev pub Below : Sections → Type 0
Below sections = (n : ℕ) → n < sections.count → section_end (sections.head n) ≤ 4026531840

-- the names are within the ceilings
pub record Within (room : Ceilings) (names : List (List ℕ)) : Type 0 where
  pub few : length names ≤ room.names
  pub short : bytes_of names ≤ room.bytes

-- from t to t' the gap's split came, with the gap's own section, start and end: it stands there, every split that was there still does, and no other came
pub record Covers (t t' : Filled) (x : Gap) (unit : ℕ) : Type 0 where
  pub here : Memᴰ (gap_split x unit) t'.rows
  pub kept : (s : Split) → Memᴰ s t.rows → Memᴰ s t'.rows
  pub only : (s : Split) → Memᴰ s t'.rows → (s ≡ gap_split x unit) ⊎ Memᴰ s t.rows

-- the split of a gap stands in a table, of a unit of this name
pub record Stands (t : Filled) (x : Gap) (name : List ℕ) : Type 0 where
  pub unit : ℕ
  pub split : Memᴰ (gap_split x unit) t.rows
  pub named : get_or t.names unit [] ≡ name

-- s is the split of one of these gaps
pub record OneOf (gaps : List Gap) (s : Split) : Type 0 where
  pub gap : Gap
  pub unit : ℕ
  pub listed : Memᴰ gap gaps
  pub is : s ≡ gap_split gap unit

-- from t to t' the splits of these gaps came, each with its gap's own section, start and end; every split that was there still stands, and no other came
pub record CoversAll (t t' : Filled) (name : Gap → List ℕ) (gaps : List Gap) : Type 0 where
  pub here : All (λ x. Stands t' x (name x)) gaps
  pub kept : (s : Split) → Memᴰ s t.rows → Memᴰ s t'.rows
  pub only : (s : Split) → Memᴰ s t'.rows → OneOf gaps s ⊎ Memᴰ s t.rows
