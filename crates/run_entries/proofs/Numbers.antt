-- The refusals that the loader, the merge, the gaps and the check can give: each line of a definition refuses with its own number, at the place of a split, a gap or a section,
-- which below 61 fits the answer's fields; and what holds of each line holds of the chain (`Says` of restore). Assumes nothing.
use Prim.Native.Nat.{ℕ, zero, suc, ◌+◌, ◌%◌, ◌≤◌, ◌<◌}
use mathlib.Core.Path.{◌≡◌, refl, sym, subst}
use mathlib.Core.List.{List, [], ◌∷◌, ◌++◌}
use mathlib.Core.Bool.{Bool, true, false, cond, not, ◌&&◌, ◌||◌}
use native.Mathlib.Omega.{arith}
use borrow.Author.Tests.{ltb-true, ltb-false}
use lib.Dec.{eqb, leb, ltb}
use lib.ListN.{length, get_or, take, drop}
use Rattle.lists.specs.Outcome.{Outcome, accepted, refused, refuse, ◌>>=◌, ◌>>◌}
use Rattle.lists.specs.Rows.{some}
use Rattle.lists.specs.Sort.{All, none, each}
use Rattle.lists.proofs.All.{all_keep}
use Rattle.align.specs.Align.{align_up}
use Rattle.fields.specs.Fields.{le16, le32}
use Rattle.obj.specs.Records.{section_at, symbol_at, reloc_at, partial_at, unit_at, partial_width}
use Rattle.obj.specs.declared.Section.{Section}
use Rattle.obj.specs.declared.Symbol.{Symbol}
use Rattle.obj.specs.declared.Split.{Split}
use Rattle.obj.specs.Nothing.{no_section}
use Rattle.names.specs.Names.{name_bad, number_of}
use Rattle.names.specs.Fixed.{is_pointer_list}
use Rattle.faults.specs.Faults.{section_bad, symbol_bad, reloc_bad, split_bad, unit_bad}
use Rattle.tables.specs.declared.Counts as tables
use Rattle.tables.specs.Records.{sections_in, relocs_in, floor_from}
use Rattle.load.specs.Load.{Loaded, nothing, section_length, repeated, name_number, section_number, symbol_number, reloc_number, split_number, unit_number, kind_number, with_record, record_number, load_from, load_of}
use Rattle.symbols.specs.Ranges.{stripped, symbols_between, highest_in}
use Rattle.sections.specs.Image.{Image}
use Rattle.sections.specs.Sections.{Sections}
use Rattle.sections.specs.Ends.{lowered_end, less_four, splitting_end}
use Rattle.sections.specs.Alignment.{given as chosen, larger, alignment_of}
use Rattle.sections.proofs.Kept.{end_within}
use Rattle.splits.specs.Questions.{next_start}
use Rattle.merge.specs.Merge.{Given, Step, keep, push, join, unchanged_if, joint_of, on_joint, on_old, on_own, decide, again, carried, rounds, merge_one, merge_all}
use Rattle.merge.proofs.Rounds.{decide_joins, rounds_done}
use Rattle.gap_columns.specs.Columns.{Gap, gap}
use Rattle.gaps.specs.Gaps.{end_after, misses, end_from, gap_end, gaps_up_to, gaps_before, gaps_from, below, default_of, section_gaps, gaps_of, into, found_gaps}
use Rattle.gaps.specs.Found.{Lies}
use Rattle.gaps.proofs.Rounds.{gap_ended}
use Rattle.gaps.proofs.Inside.{found_lies}
use Rattle.gap_splits.specs.Entering.{Filled, Ceilings, Named, full, named, gap_split, unit_name, entered, filled}
use Rattle.create_gap_splits.specs.Create.{name_in, gaps_filled}
use Rattle.gap_laws.specs.Good.{Below}
use Rattle.gap_laws.proofs.Tables.{low_of}
use Rattle.validate.specs.Check.{validate_one, validate_from, validate}
use Rattle.restore.proofs.Refusals.{Says, says_then, says_bind}
use Rattle.restore_entry.proofs.Answers.{says_after}
use Rattle.run_entries.specs.Numbers.{OfStages, CanCome}
use Rattle.run_entries.specs.Numbers as places

-- a refusal with such a number; below 61 its section has 16 bits and its address 32, where `B` holds of what was lent
pub record Refusal (Numbers : ℕ → Type 0) (B : Type 0) (number section address : ℕ) : Type 0 where
  pub comes : Numbers number
  pub narrow : B → number < 61 → (section < 65536) × (address < 4294967296)

-- ---- the loader: 1 to 8
first_of : (number rest : ℕ) (b : Bool) → number ≤ 8 → rest ≤ 8 → cond b number rest ≤ 8
first_of number rest true h q = h
first_of number rest false h q = q

module _ (c : tables.Counts) (file : List ℕ) (at len : ℕ) (t : Loaded) where
  three : (a b d : Bool) (x y z : ℕ) → x ≤ 8 → y ≤ 8 → z ≤ 8 → cond a x (cond b y (cond d z 0)) ≤ 8
  three a b d x y z h k l = first_of x _ a h (first_of y _ b k (first_of z 0 d l (omega arith)))

  name_few : name_number c file at len t ≤ 8
  unfolding name_number
  name_few =
      three (repeated c file at len t) (leb c.names (length t.names)) (name_bad (take len (drop at file)))
      0 2 3 (omega arith) (omega arith) (omega arith)

  section_few : section_number c file at len t ≤ 8
  unfolding section_number
  section_few =
      three (section_length file at len) (leb c.sections (length t.sections))
      (section_bad (get_or t.lengths (section_at file at).name 0) (section_at file at))
      1 2 4 (omega arith) (omega arith) (omega arith)

  symbol_few : symbol_number c file at len t ≤ 8
  unfolding symbol_number
  symbol_few =
      three (not (eqb len 20)) (leb c.symbols (length t.symbols))
      (symbol_bad (length t.names) (length t.sections) (get_or (sections_in file t.sections) (symbol_at file at).section no_section) (symbol_at file at))
      1 2 5 (omega arith) (omega arith) (omega arith)

  reloc_few : reloc_number c file at len t ≤ 8
  unfolding reloc_number
  reloc_few =
      three (not (eqb len 23)) (leb c.relocations (length t.relocations))
      (reloc_bad (length t.sections) (length t.symbols) (get_or (sections_in file t.sections) (reloc_at file at).section no_section)
      (floor_from (reloc_at file at).section 0 (relocs_in file t.relocations)) (reloc_at file at))
      1 2 6 (omega arith) (omega arith) (omega arith)

  split_few : split_number c file at len t ≤ 8
  unfolding split_number
  split_few =
      three (not (eqb len partial_width)) (leb c.splits (length t.splits))
      (split_bad (get_or t.lengths (partial_at 65535 file at).unit 0) (get_or t.lengths (partial_at 65535 file at).rename 0) (partial_at 65535 file at))
      1 2 7 (omega arith) (omega arith) (omega arith)

  unit_few : unit_number c file at len t ≤ 8
  unfolding unit_number
  unit_few =
      three (not (eqb len 8)) (leb c.units (length t.units)) (unit_bad (get_or t.lengths (unit_at file at).name 0) (unit_at file at))
      1 2 8 (omega arith) (omega arith) (omega arith)

  kind_few : (kind : ℕ) → kind_number c file at len t kind ≤ 8
  unfolding kind_number
  kind_few kind =
      first_of _ _ (eqb kind 1) name_few
      (first_of _ _ (eqb kind 2) section_few
      (first_of _ _ (eqb kind 3) symbol_few
      (first_of _ _ (eqb kind 4) reloc_few
      (first_of _ _ (eqb kind 5) split_few
      (first_of _ 1 (eqb kind 6) unit_few (omega arith))))))

record_few : (c : tables.Counts) (file : List ℕ) (at : ℕ) (t : Loaded) → record_number c file at t ≤ 8
unfolding record_number
record_few c file at t =
    first_of 1 _ (ltb (length file) (at + 6)) (omega arith)
    (first_of 1 _ (ltb (length file) (at + 6 + le32 file at)) (omega arith) (kind_few c file (at + 6) (le32 file at) t (le16 file (at + 4))))

-- a split that neither starts nor ends above 0xF0000000
pub record Bounded (s : Split) : Type 0 where
  pub start : s.start ≤ 4026531840
  pub end : s.end ≤ 4026531840

module _ (B : Type 0) where
  -- a refusal of a run, and one of its stages
  abbrev pub Run : (number section address : ℕ) → Type 0
  Run = Refusal CanCome B

  abbrev pub Can : (number section address : ℕ) → Type 0
  Can = Refusal OfStages B

  from_loads : (fuel : ℕ) (c : tables.Counts) (file : List ℕ) (at r : ℕ) (t : Loaded) → r + fuel ≤ 65536 → Says Run (load_from fuel c file at r t)
  unfolding load_from
  from_loads zero c file at r t h = tt
  from_loads (suc fuel) c file at r t h =
      ended (leb (length file) at) _
      (from_loads fuel c file (at + 6 + le32 file at) (suc r) (with_record c file (at + 6) (le32 file at) t (le16 file (at + 4))) (omega arith))
    where
      number : ℕ
      number = record_number c file at t

      faulty : (d : Bool) → ltb 0 number ≡ d → (rest : Outcome Loaded) → Says Run rest → Says Run (cond d (refused number 0 r) rest)
      faulty true e rest s = record { comes = places.loading (ltb-true 0 number e) (record_few c file at t); narrow = λ b q. (omega arith, omega arith) }
      faulty false e rest s = s

      ended : (d : Bool) (rest : Outcome Loaded) → Says Run rest → Says Run (cond d (accepted t) (cond (ltb 0 number) (refused number 0 r) rest))
      ended true rest s = tt
      ended false rest s = faulty (ltb 0 number) refl rest s

  pub load_says : (c : tables.Counts) (file : List ℕ) → Says Run (load_of c file)
  unfolding load_of
  load_says c file =
      says_then Run 1 0 0 (ltb 65536 (length file)) _ (λ e. record { comes = places.loading (omega arith) (omega arith); narrow = λ b q. (omega arith, omega arith) })
      (λ e. from_loads (length file) c file 0 0 nothing (omega (arith, ltb-false 65536 (length file) e)))

  -- ---- places

  -- a place that fits, and a number above 61 wherever it comes
  pub low : {number section address : ℕ} → OfStages number → (B → section < 65536) → address ≤ 4026531840 → Can number section address
  low c s a = record { comes = c; narrow = λ b h. (s b, omega (arith, a)) }

  pub high : {number section address : ℕ} → OfStages number → 61 ≤ number → Can number section address
  high c h = record { comes = c; narrow = λ b k. absurd (omega (arith, h, k)) }

  -- a split whose place fits
  pub record Fitting (s : Split) : Type 0 where
    pub section : B → s.section < 65536
    pub start : s.start ≤ 4026531840

  at_split : {number : ℕ} (s : Split) → Fitting s → OfStages number → Can number s.section s.start
  at_split s n c = low c n.section n.start

  -- ---- the splitting end: 10 at the section's start; the alignment of a split: 11 at its range's
  pub end_can : (g : Image) (n : ℕ) (head : Section) (bytes : List ℕ) → n < 65536 → head.address ≤ 4026531840 → Says Can (splitting_end g n head bytes)
  unfolding splitting_end
  end_can g n head bytes h k = go (eqb head.kind 3 || eqb head.size 0)
    where
      list : Bool
      list = is_pointer_list (g.name head.name)

      go : (b : Bool)
          → Says Can
          (cond b (accepted (head.address + head.size))
          (refuse 10 n head.address (list && ltb head.size 4) >> accepted (lowered_end g n (less_four list bytes (head.address + head.size)))))
      go true = tt
      go false = says_then Can 10 _ _ _ _ (λ e. low (places.shared (omega arith) (omega arith)) (λ b. h) k) (λ e. tt)

  pub alignment_can : (symbol : ℕ → Symbol) (count n least own start end : ℕ) → n < 65536 → start ≤ 4026531840 → Says Can (alignment_of symbol count n least own start end)
  unfolding alignment_of highest_in
  alignment_can symbol count n least own start end h k = go (not (eqb own 0))
    where
      go : (b : Bool) → Says Can (cond b (accepted (record { value = own; reason = chosen })) (highest_in symbol count n start end >>= λ highest. accepted (larger least highest)))
      go true = tt
      go false =
          says_bind Can (highest_in symbol count n start end) _
          (says_then Can 11 n start _ _ (λ e. low (places.shared (omega arith) (omega arith)) (λ b. h) k) (λ e. tt)) (λ highest e. tt)

  -- ---- the merge: 11 and 20 to 27, at the new split or the joint one
  joint_fitting : (new old : Split) → Fitting new → Fitting (joint_of new old)
  unfolding joint_of
  joint_fitting new old n = record { section = n.section; start = go (ltb old.start new.start) refl }
    where
      go : (b : Bool) → ltb old.start new.start ≡ b → cond b old.start new.start ≤ 4026531840
      go true e = omega (arith, ltb-true old.start new.start e, n.start)
      go false e = n.start

  unchanged_can : (b : Bool) (rest : Outcome Step) → Says Can rest → Says Can (unchanged_if b rest)
  unfolding unchanged_if
  unchanged_can true rest s = tt
  unchanged_can false rest s = s

  module _ (new : Split) (n : Fitting new) where
    here : {number : ℕ} → 20 ≤ number → number ≤ 28 → Can number new.section new.start
    here a b = at_split new n (places.merge a b)

    joint_can : (rows : List Split) (old : Split) → Says Can (on_joint rows new (joint_of new old))
    unfolding on_joint
    joint_can rows old =
        says_then Can 11 _ _ _ _ (λ e. at_split (joint_of new old) (joint_fitting new old n) (places.shared (omega arith) (omega arith))) (λ e.
        unchanged_can _ _
        (says_then Can 25 _ _ _ _ (λ f. here (omega arith) (omega arith)) (λ f. says_then Can 26 _ _ _ _ (λ h. here (omega arith) (omega arith)) (λ h. tt))))

    own_can : (room : ℕ) (rows own : List Split) → Says Can (on_own room rows new own)
    unfolding on_own on_old
    own_can room rows [] = says_then Can 27 _ _ _ _ (λ e. here (omega arith) (omega arith)) (λ e. tt)
    own_can room rows (old ∷ []) =
        says_then Can 23 _ _ _ _ (λ e. here (omega arith) (omega arith)) (λ e.
        says_then Can 24 _ _ _ _ (λ f. here (omega arith) (omega arith)) (λ f. unchanged_can _ _ (joint_can rows old)))
    own_can room rows (old ∷ second ∷ more) = here (omega arith) (omega arith)

    decide_can : (g : Given) (rows : List Split) → Says Can (decide g rows new)
    unfolding decide
    decide_can g rows =
        says_then Can 20 _ _ _ _ (λ e. here (omega arith) (omega arith)) (λ e.
        says_then Can 21 _ _ _ _ (λ f. here (omega arith) (omega arith)) (λ f. own_can g.room rows _))

  module _ (g : Given) where
    rounds_can : (k : ℕ) (rows : List Split) (new : Split) → Fitting new → Says Can (rounds k g (again rows new))
    unfolding rounds
    rounds_can zero rows new n = tt
    rounds_can (suc k) rows new n = says_bind Can (decide g rows new) _ (decide_can new n g rows) (λ s d. by_step s d (λ r j q. rounds_can k r j q))
      where
        by_step : (s : Step) → decide g rows new ≡ accepted s → ((r : List Split) (j : Split) → Fitting j → Says Can (rounds k g (again r j)))
            → Says Can (rounds k g (carried rows new s))
        by_step keep d ih = subst (λ (o : Outcome (List Split)). Says Can o) (sym (rounds_done k g _)) tt
        by_step push d ih = subst (λ (o : Outcome (List Split)). Says Can o) (sym (rounds_done k g _)) tt
        by_step (join j) d ih = let q = decide_joins g rows new j d in ih _ j (subst Fitting (sym q.is) (joint_fitting new q.old n))

    one_can : (rows : List Split) (new : Split) → Fitting new → Says Can (merge_one g rows new)
    unfolding merge_one
    one_can rows new n = rounds_can (suc (length rows)) rows new n

    pub merge_can : (rows : List Split) {partials : List Split} → All Fitting partials → Says Can (merge_all g rows partials)
    unfolding merge_all
    merge_can rows none = tt
    merge_can rows (each {x = new} n later) = says_bind Can (merge_one g rows new) _ (one_can rows new n) (λ next e. merge_can next later)

  -- ---- the gaps: 10, 11, 40 to 42
  next_low : (end : ℕ) {later : List Split} → end ≤ 4026531840 → All Bounded later → next_start end later ≤ 4026531840
  unfolding next_start
  next_low end h none = h
  next_low end h (each p rest) = p.start

  module _ (symbol : ℕ → Symbol) (count n : ℕ) (there : n < 65536) where
    at_gap : {number address : ℕ} → address ≤ 4026531840 → 40 ≤ number → number ≤ 42 → Can number n address
    at_gap h a b = low (places.gap a b) (λ z. there) h

    gap_end_can : (current next : ℕ) → current ≤ 4026531840 → (names symbols : List ℕ) → Says Can (end_from symbol n current next names symbols)
    unfolding end_from
    gap_end_can current next h names [] = tt
    gap_end_can current next h names (i ∷ later) =
        go (stripped (symbol i)) (some (eqb (symbol i).name) names) (misses current (symbol i)) _ _ (gap_end_can current next h names later)
        (gap_end_can current next h ((symbol i).name ∷ names) later)
      where
        go : (a b d : Bool) (x y : Outcome ℕ) → Says Can x → Says Can y
            → Says Can (cond a x (cond b (refuse 41 n current (not (eqb ((symbol i).address % 4) 0)) >> accepted (symbol i).address) (cond d (accepted (symbol i).address) y)))
        go true b d x y p q = p
        go false true d x y p q = says_then Can 41 _ _ _ _ (λ e. at_gap h (omega arith) (omega arith)) (λ e. tt)
        go false false true x y p q = tt
        go false false false x y p q = q

    one_gap_can : (current next : ℕ) → current ≤ 4026531840 → Says Can (gap_end symbol count n current next)
    unfolding gap_end
    one_gap_can current next h =
        says_bind Can (end_from symbol n current next [] (symbols_between symbol count n current next)) _ (gap_end_can current next h [] _)
        (λ end e. says_then Can 42 _ _ _ _ (λ f. at_gap h (omega arith) (omega arith)) (λ f. tt))

    up_to_can : (most current next alignment : ℕ) → current ≤ 4026531840 → next ≤ 4026531840 → Says Can (gaps_up_to symbol count most n current next alignment)
    unfolding gaps_up_to
    up_to_can zero current next alignment h k = tt
    up_to_can (suc most) current next alignment h k = go (ltb (align_up current alignment) next) (λ end q. up_to_can most end next alignment q k)
      where
        go : (b : Bool) → ((end : ℕ) → end ≤ 4026531840 → Says Can (gaps_up_to symbol count most n end next alignment))
            → Says Can
            (cond b (gap_end symbol count n current next >>= λ end. gaps_up_to symbol count most n end next alignment >>= λ later. accepted (gap n current end ∷ later)) (accepted []))
        go true ih =
            says_bind Can (gap_end symbol count n current next) _ (one_gap_can current next h)
            (λ end e. says_bind Can (gaps_up_to symbol count most n end next alignment) _ (ih end (omega (arith, k, (gap_ended symbol count n current next end e).within))) (λ later f. tt))
        go false ih = tt

    before_can : (least current : ℕ) (s : Split) → current ≤ 4026531840 → Bounded s → Says Can (gaps_before symbol count n least current s)
    unfolding gaps_before
    before_can least current s h q =
        says_bind Can (alignment_of symbol count n least s.alignment s.start s.end) _
        (alignment_can symbol count n least s.alignment s.start s.end there q.start)
        (λ c e. says_then Can 40 _ _ _ _ (λ f. at_gap h (omega arith) (omega arith)) (λ f. up_to_can _ current s.start c.value h q.start))

    after_low : (end : ℕ) (s : Split) {later : List Split} → end ≤ 4026531840 → Bounded s → All Bounded later → end_after end s later ≤ 4026531840
    unfolding end_after
    after_low end s {later} h q rest = go (eqb s.end 0)
      where
        go : (b : Bool) → cond b (next_start end later) s.end ≤ 4026531840
        go true = next_low end h rest
        go false = q.end

    splits_can : (least end current : ℕ) → end ≤ 4026531840 → current ≤ 4026531840 → {l : List Split} → All Bounded l → Says Can (gaps_from symbol count n least end current l)
    unfolding gaps_from
    splits_can least end current k h none = up_to_can _ current end least h k
    splits_can least end current k h (each {x = s} {l = later} q rest) =
        go (leb end current) (splits_can least end (end_after end s later) k (after_low end s k q rest) rest)
      where
        go : (b : Bool) → Says Can (gaps_from symbol count n least end (end_after end s later) later)
            → Says Can
            (cond b (accepted [])
            (gaps_before symbol count n least current s >>= λ gaps. gaps_from symbol count n least end (end_after end s later) later >>= λ more. accepted (gaps ++ more)))
        go true ih = tt
        go false ih =
            says_bind Can (gaps_before symbol count n least current s) _ (before_can least current s h q)
            (λ gaps e. says_bind Can (gaps_from symbol count n least end (end_after end s later) later) _ ih (λ more f. tt))

  module _ (g : Image) (sections : Sections) (few : sections.count ≤ 64) (within : Below sections) where
    section_can : (n : ℕ) → n < sections.count → {rows : List Split} → All Bounded rows → Says Can (section_gaps g sections n rows)
    unfolding section_gaps
    section_can n h q =
        let b = within n h in
        says_bind Can (splitting_end g n (sections.head n) (sections.bytes n)) _ (end_can g n (sections.head n) (sections.bytes n) (omega arith) (omega arith))
        (λ end e. splits_can g.symbol g.count n (omega arith) (default_of g sections n) end (sections.head n).address
        (omega (arith, b, end_within g n (sections.head n) (sections.bytes n) end e)) (omega arith) (all_keep (below n end) q))

    sections_can : (k n : ℕ) → n + k ≤ sections.count → {rows : List Split} → All Bounded rows → Says Can (gaps_of g sections k n rows)
    unfolding gaps_of
    sections_can zero n h q = tt
    sections_can (suc k) n h {rows} q =
        says_bind Can (section_gaps g sections n rows) _ (section_can n (omega arith) q)
        (λ gaps e. says_bind Can (gaps_of g sections k (suc n) rows) _ (sections_can k (suc n) (omega arith) q) (λ more f. tt))

    found_can : {rows : List Split} → All Bounded rows → Says Can (found_gaps g sections rows)
    unfolding found_gaps into
    found_can {rows} q = says_bind Can (gaps_of g sections sections.count 0 rows) _ (sections_can sections.count 0 (omega arith) q) (λ gaps e. tt)

    -- where they enter: 28 and those of a merge
    named_can : (room : Ceilings) (section start : ℕ) (names : List (List ℕ)) (x : List ℕ) → section < 65536 → start ≤ 4026531840 → Says Can (named room section start names x)
    unfolding named
    named_can room section start names x h k = go (ltb (number_of names x) (length names))
      where
        go : (b : Bool)
            → Says {A = Named} Can
            (cond b (accepted (record { names = names; number = number_of names x }))
            (refuse 28 section start (full room names x) >> accepted (record { names = names ++ (x ∷ []); number = length names })))
        go true = tt
        go false = says_then Can 28 _ _ _ _ (λ e. low (places.merge (omega arith) (omega arith)) (λ b. h) k) (λ e. tt)

    entered_can : (limits : Given) (room : Ceilings) (t : Filled) {gaps : List Gap} → All (Lies sections) gaps → Says Can (filled (name_in g sections) limits room t gaps)
    unfolding filled entered
    entered_can limits room t none = tt
    entered_can limits room t (each {x = x} l later) =
        let b = low_of sections within x l in
        let h : x.section < 65536 = omega (arith, few, l.there) in
        says_bind Can (entered (name_in g sections) limits room t x) _
        (says_bind Can (named room x.section x.start t.names (unit_name (name_in g sections) limits room x)) _ (named_can room x.section x.start t.names _ h b.start)
        (λ unit e. says_bind Can (merge_one limits t.rows (gap_split x unit.number)) _
        (one_can limits t.rows (gap_split x unit.number) (record { section = λ z. h; start = b.start })) (λ rows f. tt)))
        (λ r e. entered_can limits room r later)

    pub gaps_can : (limits : Given) (room : Ceilings) (t : Filled) → All Bounded t.rows → Says Can (gaps_filled g sections limits room t)
    unfolding gaps_filled
    gaps_can limits room t q =
        says_bind Can (found_gaps g sections t.rows) _ (found_can q) (λ gaps e. entered_can limits room t (found_lies g sections t.rows gaps e))

  -- ---- the check: 50 to 53
  module _ (symbol : ℕ → Symbol) (count : ℕ) where
    one_check_can : (before last : ℕ) (s : Split) → Fitting s → Says Can (validate_one symbol count before last s)
    unfolding validate_one
    one_check_can before last s n =
        says_then Can 50 _ _ _ _ (λ e. here (omega arith) (omega arith)) (λ e.
        says_then Can 51 _ _ _ _ (λ f. here (omega arith) (omega arith)) (λ f.
        says_then Can 52 _ _ _ _ (λ h. here (omega arith) (omega arith)) (λ h.
        says_then Can 53 _ _ _ _ (λ k. here (omega arith) (omega arith)) (λ k. tt))))
      where
        here : {number : ℕ} → 50 ≤ number → number ≤ 53 → Can number s.section s.start
        here a b = at_split s n (places.check a b)

    from_check_can : (before last : ℕ) {l : List Split} → All Fitting l → Says Can (validate_from symbol count before last l)
    unfolding validate_from
    from_check_can before last none = tt
    from_check_can before last (each {x = s} n rest) =
        says_after Can (validate_one symbol count before last s) _ (one_check_can before last s n) (from_check_can s.section s.end rest)

    pub check_can : {rows : List Split} → All Fitting rows → Says Can (validate symbol count rows)
    unfolding validate
    check_can q = from_check_can 0 0 q

-- what follows is asked only where the first was accepted
pub says_when : {B : Type 0} (P : (number section address : ℕ) → Type 0) (m : Outcome (Unit {0})) (o : Outcome B) → Says P m → (m ≡ accepted tt → Says P o) → Says P (m >> o)
unfolding ◌>>◌
says_when P (accepted u) o p q = q refl
says_when P (refused number section address) o p q = p
