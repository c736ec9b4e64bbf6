-- No refusal of the entry has number 0: each line of its definition refuses by a number that is written there. So where the answer is 0 the definition accepts.
-- Assumes nothing.
use Prim.Native.Nat.{ℕ, zero, suc, ◌+◌, ◌-◌, ◌/◌, ◌<◌}
use mathlib.Core.Path.{◌≡◌, sym, ◌∙◌}
use mathlib.Core.List.{List, [], ◌∷◌, ◌++◌}
use mathlib.Core.Bool.{Bool, true, false, cond, not, ◌||◌}
use native.Mathlib.Omega.{arith}
use lib.Dec.{eqb, leb, ltb}
use lib.ListN.{length}
use Rattle.lists.specs.Outcome.{Outcome, accepted, refuse, ◌>>◌, ◌>>=◌}
use Rattle.lists.specs.Rows.{keep_if, some}
use Rattle.align.specs.Align.{align_up}
use Rattle.obj.specs.declared.Symbol.{Symbol}
use Rattle.obj.specs.declared.Split.{Split}
use Rattle.names.specs.Names.{number_of}
use Rattle.symbols.specs.Ranges.{stripped, highest_in, symbols_between}
use Rattle.sections.specs.Image.{Image}
use Rattle.sections.specs.Sections.{Sections}
use Rattle.sections.specs.Alignment.{given as chosen, larger, alignment_of}
use Rattle.sections.specs.Ends.{splitting_end}
use Rattle.splits.specs.Questions.{of_unit}
use Rattle.merge.specs.Merge.{Given, Step, Next, done, again, unchanged_if, on_joint, on_old, on_own, decide, carried, joint_of, rounds, merge_one}
use Rattle.gap_columns.specs.Columns.{Gap, gap}
use Rattle.gaps.specs.Gaps.{end_after, misses, end_from, gap_end, gaps_up_to, gaps_before, gaps_from, section_gaps, gaps_of, into, found_gaps}
use Rattle.gap_splits.specs.Entering.{Filled, Ceilings, named, gap_split, unit_name, entered, filled}
use Rattle.create_gap_splits.specs.Create.{name_in, gaps_filled}
use Rattle.name_table.specs.Stored.{stage_lengths}
use Rattle.stage_tables.specs.StageTables.{stage_sections}
use Rattle.stage_names.specs.StageNames.{fit_check}
use Rattle.entry_create_gap_splits.specs.Entry.{gap_splits_of}
use Rattle.restore.proofs.Refusals.{Says, says_then, says_bind}
use Rattle.restore_entry.proofs.Answers.{Table, says_map, says_after, names_say, sections_say, symbols_say, splits_say, accepted_of}
use Rattle.gap_twice_entry.specs.Calls.{Call, outcome, Left}

-- a number above 0
abbrev Numbered : (number section address : ℕ) → Type 0
Numbered number section address = 0 < number

-- a line of a definition
line : {B : Type 0} (number section address : ℕ) (t : Bool) (m : Outcome B) → 0 < number → Says Numbered m → Says Numbered (refuse number section address t >> m)
line number section address t m h s = says_then Numbered number section address t m (λ e. h) (λ e. s)

bind : {A B : Type 0} (m : Outcome A) (f : A → Outcome B) → Says Numbered m → ((a : A) → Says Numbered (f a)) → Says Numbered (m >>= f)
bind m f p q = says_bind Numbered m f p (λ a e. q a)

either : {A : Type 0} (t : Bool) (m o : Outcome A) → Says Numbered m → Says Numbered o → Says Numbered (cond t m o)
either true m o p q = p
either false m o p q = q

-- ---- the search of a section
module _ (symbol : ℕ → Symbol) (count n : ℕ) where
  alignment_numbers : (least own start end : ℕ) → Says Numbered (alignment_of symbol count n least own start end)
  unfolding alignment_of highest_in
  alignment_numbers least own start end =
      either (not (eqb own 0)) (accepted (record { value = own; reason = chosen })) (highest_in symbol count n start end >>= λ highest. accepted (larger least highest)) tt
      (bind (highest_in symbol count n start end) (λ highest. accepted (larger least highest)) (line 11 n start _ _ (omega arith) tt) (λ a. tt))

  end_from_numbers : (current next : ℕ) (names symbols : List ℕ) → Says Numbered (end_from symbol n current next names symbols)
  unfolding end_from
  end_from_numbers current next names [] = tt
  end_from_numbers current next names (i ∷ later) =
      either (stripped (symbol i)) _ _ (end_from_numbers current next names later)
      (either (some (eqb (symbol i).name) names) _ _ (line 41 n current _ _ (omega arith) tt)
      (either (misses current (symbol i)) (accepted (symbol i).address) _ tt (end_from_numbers current next ((symbol i).name ∷ names) later)))

  gap_end_numbers : (current next : ℕ) → Says Numbered (gap_end symbol count n current next)
  unfolding gap_end
  gap_end_numbers current next =
      bind (end_from symbol n current next [] (symbols_between symbol count n current next)) _ (end_from_numbers current next [] (symbols_between symbol count n current next))
      (λ end. line 42 n current _ _ (omega arith) tt)

  up_to_numbers : (most current next alignment : ℕ) → Says Numbered (gaps_up_to symbol count most n current next alignment)
  unfolding gaps_up_to
  up_to_numbers zero current next alignment = tt
  up_to_numbers (suc most) current next alignment =
      either (ltb (align_up current alignment) next) _ (accepted [])
      (bind (gap_end symbol count n current next) _ (gap_end_numbers current next)
      (λ end. bind (gaps_up_to symbol count most n end next alignment) (λ later. accepted (gap n current end ∷ later)) (up_to_numbers most end next alignment) (λ later. tt)))
      tt

  before_numbers : (least current : ℕ) (s : Split) → Says Numbered (gaps_before symbol count n least current s)
  unfolding gaps_before
  before_numbers least current s =
      bind (alignment_of symbol count n least s.alignment s.start s.end) _ (alignment_numbers least s.alignment s.start s.end)
      (λ c. line 40 n current _ _ (omega arith) (up_to_numbers (s.start - current) current s.start c.value))

  from_numbers : (least end current : ℕ) (rows : List Split) → Says Numbered (gaps_from symbol count n least end current rows)
  unfolding gaps_from
  from_numbers least end current [] = up_to_numbers (end - current) current end least
  from_numbers least end current (s ∷ later) =
      either (leb end current) (accepted []) _ tt
      (bind (gaps_before symbol count n least current s) _ (before_numbers least current s)
      (λ gaps. bind (gaps_from symbol count n least end (end_after end s later) later) (λ more. accepted (gaps ++ more)) (from_numbers least end (end_after end s later) later) (λ more. tt)))

-- ---- the search of all sections
module _ (g : Image) (sections : Sections) (rows : List Split) where
  section_numbers : (n : ℕ) → Says Numbered (section_gaps g sections n rows)
  unfolding section_gaps splitting_end
  section_numbers n =
      bind (splitting_end g n (sections.head n) (sections.bytes n)) _
      (either (eqb (sections.head n).kind 3 || eqb (sections.head n).size 0) (accepted ((sections.head n).address + (sections.head n).size)) _ tt (line 10 n _ _ _ (omega arith) tt))
      (λ end. from_numbers g.symbol g.count n _ end _ _)

  gaps_numbers : (k n : ℕ) → Says Numbered (gaps_of g sections k n rows)
  unfolding gaps_of
  gaps_numbers zero n = tt
  gaps_numbers (suc k) n =
      bind (section_gaps g sections n rows) _ (section_numbers n) (λ gaps. bind (gaps_of g sections k (suc n) rows) (λ more. accepted (gaps ++ more)) (gaps_numbers k (suc n)) (λ more. tt))

  found-numbers : Says Numbered (found_gaps g sections rows)
  unfolding found_gaps into
  found-numbers = bind (gaps_of g sections sections.count 0 rows) _ (gaps_numbers sections.count 0) (λ gaps. tt)

-- ---- a merge

unchanged_numbers : (t : Bool) (m : Outcome Step) → Says Numbered m → Says Numbered (unchanged_if t m)
unfolding unchanged_if
unchanged_numbers true m p = tt
unchanged_numbers false m p = p

joint_numbers : (rows : List Split) (new joint : Split) → Says Numbered (on_joint rows new joint)
unfolding on_joint
joint_numbers rows new joint = line 11 _ _ _ _ (omega arith) (unchanged_numbers _ _ (line 25 _ _ _ _ (omega arith) (line 26 _ _ _ _ (omega arith) tt)))

own_numbers : (room : ℕ) (rows : List Split) (new : Split) (own : List Split) → Says Numbered (on_own room rows new own)
unfolding on_own on_old
own_numbers room rows new [] = line 27 _ _ _ _ (omega arith) tt
own_numbers room rows new (old ∷ []) = line 23 _ _ _ _ (omega arith) (line 24 _ _ _ _ (omega arith) (unchanged_numbers _ _ (joint_numbers rows new (joint_of new old))))
own_numbers room rows new (old ∷ second ∷ more) = omega arith

decide-numbers : (g : Given) (rows : List Split) (new : Split) → Says Numbered (decide g rows new)
unfolding decide
decide-numbers g rows new = line 20 _ _ _ _ (omega arith) (line 21 _ _ _ _ (omega arith) (own_numbers g.room rows new (keep_if (of_unit new.section new.unit) rows)))

rounds-numbers : (k : ℕ) (g : Given) (next : Next) → Says Numbered (rounds k g next)
unfolding rounds
rounds-numbers zero g (done rows) = tt
rounds-numbers zero g (again rows new) = tt
rounds-numbers (suc k) g (done rows) = tt
rounds-numbers (suc k) g (again rows new) = bind (decide g rows new) _ (decide-numbers g rows new) (λ step. rounds-numbers k g (carried rows new step))

-- ---- the entering of gaps
module _ (section_name : ℕ → List ℕ) (g : Given) (room : Ceilings) where
  named-numbers : (section start : ℕ) (names : List (List ℕ)) (x : List ℕ) → Says Numbered (named room section start names x)
  unfolding named
  named-numbers section start names x = either (ltb (number_of names x) (length names)) (accepted (record { names = names; number = number_of names x })) _ tt (line 28 section start _ _ (omega arith) tt)

  entered_numbers : (t : Filled) (x : Gap) → Says Numbered (entered section_name g room t x)
  unfolding entered merge_one
  entered_numbers t x =
      bind (named room x.section x.start t.names (unit_name section_name g room x)) _ (named-numbers x.section x.start t.names (unit_name section_name g room x))
      (λ unit. bind (merge_one g t.rows (gap_split x unit.number)) (λ rows. accepted (record { names = unit.names; rows = rows }))
      (rounds-numbers (suc (length t.rows)) g (again t.rows (gap_split x unit.number))) (λ rows. tt))

  filled_numbers : (t : Filled) (gaps : List Gap) → Says Numbered (filled section_name g room t gaps)
  unfolding filled
  filled_numbers t [] = tt
  filled_numbers t (x ∷ later) = bind (entered section_name g room t x) _ (entered_numbers t x) (λ t'. filled_numbers t' later)

gaps_filled_numbers : (g : Image) (sections : Sections) (limits : Given) (room : Ceilings) (t : Filled) → Says Numbered (gaps_filled g sections limits room t)
unfolding gaps_filled
gaps_filled_numbers g sections limits room t = bind (found_gaps g sections t.rows) _ (found-numbers g sections t.rows) (λ gaps. filled_numbers (name_in g sections) limits room t gaps)

-- ---- the entry

fit_numbers : (most most_bytes : ℕ) (ends : List ℕ) → Says Numbered (fit_check most most_bytes ends)
unfolding fit_check
fit_numbers most most_bytes ends = line 1 _ _ _ _ (omega arith) (line 2 _ _ _ _ (omega arith) tt)

numbers : (c : Call) → Says Numbered (outcome c)
unfolding gap_splits_of
numbers c =
    says_after Numbered _ _ (fit_numbers _ _ c.ends)
    (after _ _ (names_say _ c.ends c.bytes)
    (after _ _ (sections_say _ (stage_lengths c.ends c.bytes) c.places (length c.image) c.sections)
    (after _ _ (symbols_say _ (length c.ends / 2) (stage_sections c.sections) c.symbols)
    (after _ _ (splits_say _ (stage_lengths c.ends c.bytes) (stage_sections c.sections) c.splits) (gaps_filled_numbers _ _ _ _ _)))))
  where
    after : (m : Outcome (Unit {0})) (o : Outcome Filled) → Says Table m → Says Numbered o → Says Numbered (m >> o)
    after m o s q = says_after Numbered m o (says_map (λ number section address h. h.least) m s) q

-- THEOREM: where the answer is 0, the definition accepts
pub accepts : (c : Call) (r : Left c) → r.answer ≡ 0 → (t : Filled) × (outcome c ≡ accepted t)
accepts c r e = accepted_of (outcome c) (numbers c) (sym r.leaves.answered ∙ e)
