-- What the search for gaps leaves in the lent table of crate gap_columns, or the refusal. What it is lent besides: a mark for each name, all 0
-- before and after, which says whether the name already occurred in the gap.
-- How many gaps there can be: each starts at a section's start, at a start or end of a split, or at a symbol, and no two at one address
-- (DECISIONS.md, 52a). So a table with room for so many never overflows, and the search has no refusal of its own for that.
use Rattle.std.specs.Prelude.{ℕ, ◌+◌, ◌≤◌, ◌<◌, ◌≡◌, List, [], ◌++◌, map, true, false, cond, not, ◌||◌, length, get_or, take, drop, eqb, leb, Result, Ok, Err}
use Rattle.lists.specs.Outcome.{Outcome, accepted, refused, refuse, ◌>>◌, ◌>>=◌}
use Rattle.lists.specs.Rows.{some}
use Rattle.lists.specs.Sort.{All, Rising}
use Rattle.lists.specs.Members.{In}
use Rattle.obj.specs.declared.Refusal.{Refusal}
use Rattle.obj.specs.declared.Symbol.{Symbol}
use Rattle.obj.specs.declared.Split.{Split}
use Rattle.symbol_order.specs.Order.{key, numbers, symbol_of, Order}
use Rattle.symbols.specs.Ranges.{stripped}
use Rattle.sections.specs.Image.{Image}
use Rattle.sections.specs.Sections.{Sections}
use Rattle.sections.specs.Alignment.{alignment_of}
use Rattle.symbols.specs.declared.Backwards.{Backwards}
use Rattle.gap_columns.specs.Columns.{Gap, key_of}
use Rattle.gap_columns.specs.Table.{found_in}
use Rattle.gap_columns.specs.declared.gap_table.GapTable.{GapTable}
use Rattle.gaps.specs.Gaps.{misses, end_from}

-- ---- what the answers mean

-- of a search that left these gaps
abbrev pub searched : GapTable → Result (Unit {0}) Refusal → Outcome (List Gap)
searched t (Ok _) = accepted (found_in t)
searched t (Err r) = refused r.number r.section r.address

-- ---- where gaps may start

-- the keys of all sections' starts, of all splits' starts and ends, and of all symbols
unfoldable pub starts : Image → Sections → List Split → List ℕ
starts g sections rows =
    map (λ n. key n (sections.head n).address) (numbers sections.count)
    ++ map (λ s. key s.section s.start) rows
    ++ map (λ s. key s.section s.end) rows
    ++ map (λ i. key (g.symbol i).section (g.symbol i).address) (numbers g.count)

-- gaps by section and address, no two at one, each starting at one of `room`
pub record Gathered (room : List ℕ) (gaps : List Gap) : Type 0 where
  pub rising : Rising key_of gaps
  pub among : All (λ x. In (key_of x) room) gaps

-- a gap lies in its section
pub record Lies (sections : Sections) (x : Gap) : Type 0 where
  pub there : x.section < sections.count
  pub forward : x.start < x.end
  pub within : x.end ≤ (sections.head x.section).address + (sections.head x.section).size

-- ---- marks

-- no name is marked
abbrev pub Clean : List ℕ → Type 0
Clean marks = (k : ℕ) → get_or marks k 0 ≡ 0

-- each symbol's name has a mark
abbrev pub Markable : (symbol : ℕ → Symbol) → (count : ℕ) → (marks : List ℕ) → Type 0
Markable symbol count marks = (i : ℕ) → i < count → (symbol i).name < length marks

-- the symbols with their order, and a mark for each of their names
pub record Lent (b places order marks : List ℕ) : Type 0 where
  pub symbols : Order b places order
  pub markable : Markable (symbol_of b places) (length places) marks
  pub clean : Clean marks

-- room for the gaps of section n from `current` up to `next`: these rows, the symbols and `current` are starts for which there is room
pub record Space (symbol : ℕ → Symbol) (count n current next : ℕ) (rows : List Split) (found : GapTable) : Type 0 where
  pub room : List ℕ
  pub gathered : Gathered room (found_in found)
  pub here : current < next → In (key n current) room
  pub splits : All (λ s. In (key s.section s.start) room × In (key s.section s.end) room) rows
  pub symbols : (i : ℕ) → i < count → In (key (symbol i).section (symbol i).address) room
  pub fits : length room ≤ found.room

-- .. for the gaps of section n, which starts at `start`, whatever its splitting end is
abbrev pub SectionSpace : (symbol : ℕ → Symbol) → (count n start : ℕ) → (rows : List Split) → GapTable → Type 0
SectionSpace symbol count n start rows found = (end : ℕ) → Space symbol count n start end rows found

-- ---- steps of the code

-- j symbols of a part were passed: `names` are those of the unstripped ones, which are marked, and symbol j, if there is one, ends the gap
pub record Stopped (symbol : ℕ → Symbol) (current : ℕ) (part marks : List ℕ) (j : ℕ) : Type 0 where
  pub names : List ℕ
  pub small : j ≤ length part
  pub marked : (k : ℕ) → k < length marks → not (eqb (get_or marks k 0) 0) ≡ some (eqb k) names
  pub clean : (k : ℕ) → some (λ i. eqb k (symbol i).name) (take j part) ≡ false → get_or marks k 0 ≡ 0
  pub is : (n next : ℕ) → end_from symbol n current next names (drop j part) ≡ end_from symbol n current next [] part
  pub ends : j < length part → (stripped (symbol (get_or part j 0)) ≡ false) × ((some (eqb (symbol (get_or part j 0)).name) names || misses current (symbol (get_or part j 0))) ≡ true)

-- the marks of a part's names are gone
abbrev pub Unmarked : (symbol : ℕ → Symbol) → (part before after : List ℕ) → Type 0
Unmarked symbol part before after = (k : ℕ) → get_or after k 0 ≡ cond (some (λ i. eqb k (symbol i).name) part) 0 (get_or before k 0)

-- where a gap ends that has these symbols: `gap_end` of the symbols from `current` on
abbrev pub end_in : (symbol : ℕ → Symbol) → (n current next : ℕ) → (part : List ℕ) → Outcome ℕ
end_in symbol n current next part = do
  end ← end_from symbol n current next [] part
  refuse 42 n current (leb end current)
  accepted end

-- "the next split's alignment", without its reason
abbrev pub alignment_of_next : (symbol : ℕ → Symbol) → (count n least : ℕ) → Split → Outcome ℕ
alignment_of_next symbol count n least s = alignment_of symbol count n least s.alignment s.start s.end >>= λ chosen. accepted chosen.value

-- .. as an answer says it, of a split of section n that starts at `start`
abbrev pub next_meaning : (n start : ℕ) → Result ℕ Backwards → Outcome ℕ
next_meaning n start (Ok a) = accepted a
next_meaning n start (Err e) = refused 11 n start
