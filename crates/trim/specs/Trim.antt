-- The trim (`trim_split_alignment`, then `trim_linker_generated_symbols`): document 01, "**Trim.** The end falls to the end of the last such symbol in
-- start..end, aligned up. It falls in the last split at that start (`at_mut`). Where an end falls, the alignment of the section's next split is still
-- asked, from this split's start. Then, where the splitting end isn't the section's end, a last split that ends above it is cut to it."
-- All falls are found in the table as it was, and then carried out: 54 comes "after every 11 of the stage", and 10 after that.
-- What a trimmed table keeps, and what it is for a table that passed the check: the laws of proofs/Ends.antt and proofs/Bounds.antt.
use Rattle.std.specs.Prelude.{ℕ, zero, suc, ◌+◌, Option, Some, None, List, [], ◌∷◌, Bool, cond, not, ◌&&◌, get_or, set, drop, eqb, leb, ltb}
use Rattle.lists.specs.Outcome.{Outcome, accepted, refuse, ◌>>◌, ◌>>=◌}
use Rattle.lists.specs.Rows.{some}
use Rattle.align.specs.Align.{align_up}
use Rattle.obj.specs.declared.Section.{Section}
use Rattle.obj.specs.declared.Symbol.{Symbol}
use Rattle.obj.specs.declared.Split.{Split}
use Rattle.obj.specs.Nothing.{no_split}
use Rattle.symbols.specs.Ranges.{last_in}
use Rattle.sections.specs.Image.{Image}
use Rattle.sections.specs.Sections.{Sections}
use Rattle.sections.specs.Alignment.{alignment_from}
use Rattle.sections.specs.Ends.{splitting_end}
use Rattle.splits.specs.Updates.{with_end}

-- ---- trim_split_alignment

-- "the end of the last such symbol in start..end"; the split's own end where there is none
unfoldable pub end_of : (ℕ → Symbol) → (own : ℕ) → Option ℕ → ℕ
end_of symbol own (Some i) = (symbol i).address + (symbol i).size
end_of symbol own None = own

-- `head` gives the sections' heads
module _ (g : Image) (head : ℕ → Section) where
  -- "the alignment of the section's next split is still asked, from this split's start"; its value is not used
  unfoldable pub ask_next : Split → List Split → Outcome (Unit {0})
  ask_next s [] = accepted tt
  ask_next s (next ∷ l) = cond (eqb next.section s.section) (alignment_from g head s.start next >>= λ unused. accepted tt) (accepted tt)

  -- the end of the last such symbol in start..end of s, aligned up
  unfoldable pub aligned_end : Split → Outcome ℕ
  aligned_end s = do
    -- "the last such symbol in start..end": "11 start above end, asked of a section that has such records"
    found ← last_in g.symbol g.count s.section s.start s.end
    chosen ← alignment_from g head s.start s
    accepted (align_up (end_of g.symbol s.end found) chosen.value)

  -- where the end of s falls to, `later` being the splits after it; 0 where it does not fall. An end that falls lies above the start of s, and
  -- so above 0: the symbol starts in s and has a size
  unfoldable pub fall_of : Split → (later : List Split) → Outcome ℕ
  fall_of s later = do
    -- "The end falls to the end of the last such symbol in start..end, aligned up."
    end ← aligned_end s
    cond (ltb end s.end)
        (do
          ask_next s later
          accepted end)
        (accepted 0)

  -- the falls of all splits, in the table's order
  unfoldable pub falls_of : List Split → Outcome (List ℕ)
  falls_of [] = accepted []
  falls_of (s ∷ l) = do
    fall ← fall_of s l
    falls ← falls_of l
    accepted (fall ∷ falls)

-- ---- the falls carried out

-- how many of these rows, from the first on, start where s does
unfoldable pub alongside : Split → List Split → ℕ
alongside s [] = 0
alongside s (y ∷ l) = cond (eqb y.section s.section && eqb y.start s.start) (suc (alongside s l)) 0

-- "the last split at that start": the place of the last row that starts where row k does (`last_at_start` of proofs/Ends.antt)
unfoldable pub last_at : List Split → ℕ → ℕ
last_at rows k = k + alongside (get_or rows k no_split) (drop (suc k) rows)

-- "ends at or below it and isn't open"
abbrev pub closed_below : (start : ℕ) → Split → Bool
closed_below start s = leb s.end start && not (eqb s.end 0)

-- the fall of row k
unfoldable pub carry_one : ℕ → (fall : ℕ) → List Split → Outcome (List Split)
carry_one k zero rows = accepted rows
carry_one k (suc end) rows = do
  -- "54 an end falls, but the last split at that start ends at or below it and isn't open"
  refuse 54 (get_or rows k no_split).section (get_or rows k no_split).start (closed_below (get_or rows k no_split).start (get_or rows (last_at rows k) no_split))
  -- "It falls in the last split at that start"
  accepted (set rows (last_at rows k) (with_end (suc end) (get_or rows (last_at rows k) no_split)))

-- the falls of row k and of those after it, one after another, on the table as it changes
unfoldable pub carry_from : ℕ → (falls : List ℕ) → List Split → Outcome (List Split)
carry_from k [] rows = accepted rows
carry_from k (fall ∷ falls) rows = do
  fallen ← carry_one k fall rows
  carry_from (suc k) falls fallen

-- ---- trim_linker_generated_symbols

-- "a last split that ends above it is cut to it"
unfoldable pub cut_to : (end : ℕ) → Split → Split
cut_to end s = cond (ltb end s.end) (with_end end s) s

-- the last of the rows of section n
unfoldable pub cut_last : (n end : ℕ) → List Split → List Split
cut_last n end [] = []
cut_last n end (s ∷ l) = cond (eqb s.section n && not (some (λ y. eqb y.section n) l)) (cut_to end s ∷ l) (s ∷ cut_last n end l)

module _ (g : Image) (sections : Sections) where
  unfoldable pub cut_section : (n : ℕ) → List Split → Outcome (List Split)
  cut_section n rows = do
    -- 10, at the section's start
    end ← splitting_end g n (sections.head n) (sections.bytes n)
    -- "where the splitting end isn't the section's end"
    accepted (cond (eqb ((sections.head n).address + (sections.head n).size) end) rows (cut_last n end rows))

  -- k sections, from section n on
  unfoldable pub cut_from : (k n : ℕ) → List Split → Outcome (List Split)
  cut_from zero n rows = accepted rows
  cut_from (suc k) n rows = do
    cut ← cut_section n rows
    cut_from k (suc n) cut

  -- ---- the stage

  unfoldable pub trimmed : List Split → Outcome (List Split)
  trimmed rows = do
    falls ← falls_of g sections.head rows
    fallen ← carry_from 0 falls rows
    cut_from sections.count 0 fallen
