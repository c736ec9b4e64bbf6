-- The gaps of a split table (`create_gap_splits`, its search): document 01, "**Gap.** A gap split starts at the current address if the next start lies
-- above that address aligned up by the next split's alignment. It ends at the next start, or earlier at the first unstripped symbol whose name already
-- occurred in the gap, or whose alignment the *current address* misses. .. An open split runs to the next start or the splitting end."
-- The place is "Gap (section, current)"; 10 and 11 come where the splitting end and the next split's alignment are asked (DECISIONS.md, 45 to 49).
-- Laws: every gap found lies in its section (`found_lies`), they rise by section and start (`found_rising`), both of proofs/Inside.antt; how many there can
-- be (`found_few` of proofs/Sections.antt). Cases: proofs/Cases.antt.
use Rattle.std.specs.Prelude.{ℕ, zero, suc, ◌-◌, ◌%◌, List, [], ◌∷◌, ◌++◌, Bool, cond, not, ◌&&◌, eqb, leb, ltb}
use Rattle.lists.specs.Outcome.{Outcome, accepted, refuse, ◌>>◌, ◌>>=◌}
use Rattle.lists.specs.Rows.{keep_if, some}
use Rattle.align.specs.Align.{align_up}
use Rattle.obj.specs.declared.Symbol.{Symbol}
use Rattle.obj.specs.declared.Split.{Split}
use Rattle.symbols.specs.Ranges.{stripped, symbols_between}
use Rattle.sections.specs.Image.{Image}
use Rattle.sections.specs.Sections.{Sections}
use Rattle.sections.specs.Alignment.{default_alignment, alignment_of}
use Rattle.sections.specs.Ends.{splitting_end}
use Rattle.gap_columns.specs.Columns.{Gap, gap, in_order}
use Rattle.splits.specs.Questions.{next_start}

-- the address after a split: "An open split runs to the next start or the splitting end"
unfoldable pub end_after : (end : ℕ) → Split → (later : List Split) → ℕ
end_after end s later = cond (eqb s.end 0) (next_start end later) s.end

-- "whose alignment the *current address* misses"; 0 is none
abbrev pub misses : (current : ℕ) → Symbol → Bool
misses current y = not (eqb y.alignment 0) && not (eqb (current % y.alignment) 0)

-- ---- one gap

-- "the first unstripped symbol whose name already occurred in the gap, or whose alignment the *current address* misses", else the next start;
-- `names` are those of the unstripped symbols before
unfoldable pub end_from : (symbol : ℕ → Symbol) → (n current next : ℕ) → (names symbols : List ℕ) → Outcome ℕ
end_from symbol n current next names [] = accepted next
end_from symbol n current next names (i ∷ later) =
    cond (stripped (symbol i)) (end_from symbol n current next names later)
    (cond (some (eqb (symbol i).name) names)
    (do
      -- "41 repeated name not at a multiple of 4"
      refuse 41 n current (not (eqb ((symbol i).address % 4) 0))
      accepted (symbol i).address)
    (cond (misses current (symbol i)) (accepted (symbol i).address)
    (end_from symbol n current next ((symbol i).name ∷ names) later)))

module _ (symbol : ℕ → Symbol) (count : ℕ) where
  -- where a gap from `current` on ends
  unfoldable pub gap_end : (n current next : ℕ) → Outcome ℕ
  gap_end n current next = do
    end ← end_from symbol n current next [] (symbols_between symbol count n current next)
    -- "42 gap would end where it starts"
    refuse 42 n current (leb end current)
    accepted end

  -- the gaps from `current` up to the next start, of which each begins where the one before ends; no more than `most`
  unfoldable pub gaps_up_to : (most n current next alignment : ℕ) → Outcome (List Gap)
  gaps_up_to zero n current next alignment = accepted []
  gaps_up_to (suc most) n current next alignment =
      -- "if the next start lies above that address aligned up by the next split's alignment"
      cond (ltb (align_up current alignment) next)
      (do
        end ← gap_end n current next
        later ← gaps_up_to most n end next alignment
        accepted (gap n current end ∷ later))
      (accepted [])

  -- each gap ends above its start and not above the next start, so there are no more gaps than addresses (`gaps_round` of proofs/Rounds.antt is the
  -- equation without a number of rounds)
  abbrev pub gaps_to : (n current next alignment : ℕ) → Outcome (List Gap)
  gaps_to n current next alignment = gaps_up_to (next - current) n current next alignment

  -- ---- the gaps of a section, whose default alignment is `least`

  -- the gaps before the next split
  unfoldable pub gaps_before : (n least current : ℕ) → Split → Outcome (List Gap)
  gaps_before n least current s = do
    -- "the next split's alignment", with 11 at the split's start
    chosen ← alignment_of symbol count n least s.alignment s.start s.end
    -- "40 next start below current"
    refuse 40 n current (ltb s.start current)
    gaps_to n current s.start chosen.value

  -- from `current` on, over the splits that are left
  unfoldable pub gaps_from : (n least end current : ℕ) → List Split → Outcome (List Gap)
  gaps_from n least end current [] = gaps_to n current end least
  gaps_from n least end current (s ∷ later) =
      cond (leb end current) (accepted [])
      (do
        gaps ← gaps_before n least current s
        more ← gaps_from n least end (end_after end s later) later
        accepted (gaps ++ more))

-- the splits of section n that start below its splitting end, "also those below the section's start" (DECISIONS.md, 45)
abbrev pub below : (n end : ℕ) → Split → Bool
below n end s = eqb s.section n && ltb s.start end

module _ (g : Image) (sections : Sections) where
  -- the default of section n: that of the splitting end, "whatever symbols say" (DECISIONS.md, 44)
  abbrev pub default_of : ℕ → ℕ
  default_of n = default_alignment (sections.head n) (g.name (sections.head n).name)

  unfoldable pub section_gaps : (n : ℕ) → List Split → Outcome (List Gap)
  section_gaps n rows = do
    -- 10, at the section's start
    end ← splitting_end g n (sections.head n) (sections.bytes n)
    gaps_from g.symbol g.count n (default_of n) end (sections.head n).address (keep_if (below n end) rows)

  -- k sections, from section n on
  unfoldable pub gaps_of : (k n : ℕ) → List Split → Outcome (List Gap)
  gaps_of zero n rows = accepted []
  gaps_of (suc k) n rows = do
    gaps ← section_gaps n rows
    more ← gaps_of k (suc n) rows
    accepted (gaps ++ more)

-- ---- all gaps, in the order in which they enter

-- the gaps that are found enter one after another, after those that are there
unfoldable pub into : (before : List Gap) → Outcome (List Gap) → Outcome (List Gap)
into before found = found >>= λ gaps. accepted (in_order before gaps)

unfoldable pub found_gaps : Image → Sections → List Split → Outcome (List Gap)
found_gaps g sections rows = into [] (gaps_of g sections sections.count 0 rows)
