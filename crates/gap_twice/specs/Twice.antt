-- Filling twice: document 02, (k), "filling a list that the filler produced is accepted and changes nothing", with its premises (`Premises`) and with those that
-- are needed (`Needed`; DECISIONS.md, 91). What a filling leaves is the first list with a split for each gap among its splits (`with_gap_splits`).
-- The theorems are `filled_again` and `filled_twice` of proofs/Theorem.antt.
use Rattle.std.specs.Prelude.{ℕ, ◌*◌, ◌+◌, ◌≤◌, ◌<◌, ◌≡◌, ◌⊎◌, List, [], ◌∷◌, map, Bool, true, false, ◌&&◌, eqb, length, get_or}
use Rattle.lists.specs.Sort.{All, merge_by}
use Rattle.obj.specs.declared.Split.{Split}
use Rattle.obj.specs.Nothing.{no_split}
use Rattle.names.specs.Fixed.{codes}
use Rattle.sections.specs.Image.{Image}
use Rattle.sections.specs.Sections.{Sections}
use Rattle.gap_columns.specs.Columns.{Gap}
use Rattle.gap_splits.specs.Entering.{Filled, gap_split}

-- ---- what a filling leaves

-- section and start of a split as one number, as `key_of` has them of a gap
abbrev pub split_key : Split → ℕ
split_key s = s.section * 4294967296 + s.start

-- the split of a gap; each gap has its unit
abbrev pub gap_row : (unit : Gap → ℕ) → Gap → Split
gap_row unit x = gap_split x (unit x)

-- the splits with those of the gaps among them, by section and start
abbrev pub with_gap_splits : (unit : Gap → ℕ) → List Gap → List Split → List Split
with_gap_splits unit gaps rows = merge_by split_key (map (gap_row unit) gaps) rows

-- ---- the premises

-- a name begins with these bytes
unfoldable pub begins_with : List ℕ → List ℕ → Bool
begins_with [] name = true
begins_with (b ∷ front) [] = false
begins_with (b ∷ front) (c ∷ name) = eqb b c && begins_with front name

-- "`auto_`"
abbrev pub auto_front : List ℕ
auto_front = codes "auto_"

-- "no unit name begins with `auto_`": that of this split does not
abbrev pub NotAuto : (names : List (List ℕ)) → Split → Type 0
NotAuto names s = begins_with auto_front (get_or names s.unit []) ≡ false

-- "each end is 0 or above its start"
abbrev pub Forward : Split → Type 0
Forward s = (s.end ≡ 0) ⊎ (s.start < s.end)

-- "in the list first filled, no unit name begins with `auto_`, starts within a section differ, and each end is 0 or above its start"
pub record Premises (t : Filled) : Type 0 where
  pub units : All (NotAuto t.names) t.rows
  pub starts : (i j : ℕ) → i < j → j < length t.rows → (get_or t.rows i no_split).section ≡ (get_or t.rows j no_split).section → (get_or t.rows i no_split).start ≡ (get_or t.rows j no_split).start → ⊥
  pub forward : All Forward t.rows

-- those of them that are needed: starts within a section may be equal
pub record Needed (t : Filled) : Type 0 where
  pub units : All (NotAuto t.names) t.rows
  pub forward : All Forward t.rows

-- ---- what is the same both times

-- no start is above 0xF0000000, as the table checks say
abbrev pub Low : Split → Type 0
Low s = s.start ≤ 4026531840

-- "sections and symbols are the same both times": so are the sections' names and the symbols' under their numbers, in a table to which names were added
pub record SameNames (g : Image) (sections : Sections) (name : ℕ → List ℕ) : Type 0 where
  pub heads : (n : ℕ) → n < sections.count → name (sections.head n).name ≡ g.name (sections.head n).name
  pub symbols : (i : ℕ) → i < g.count → name (g.symbol i).name ≡ g.name (g.symbol i).name

-- the same symbols with the names of another table
abbrev pub with_names : Image → (name : ℕ → List ℕ) → Image
with_names g name = record { symbol = g.symbol; count = g.count; name = name }
