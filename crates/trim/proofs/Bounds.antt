-- Ends within bounds: an end falls below some end of its section, and a cut only lowers one. So whatever bounds the ends of each section before the trim
-- bounds them after it, and a table that passed check 7 passes it again. Assumes nothing.
use mathlib.Core.Path.{◌≡◌, refl, sym, ap, ap₂, subst, ◌∙◌}
use mathlib.Core.List.{List, [], ◌∷◌}
use mathlib.Core.Bool.{Bool, true, false, cond, not, ◌&&◌}
use mathlib.Core.Logic.{◌⊎◌, inl, inr}
use Prim.Native.Nat.{ℕ, zero, suc, ◌+◌, ◌-◌, ◌≤◌, ◌<◌, suc-le-suc}
use native.Mathlib.Nat.{le_of_suc-le-suc, not-suc-le-zero, add-suc, suc-add, zero-add, add-zero}
use native.Mathlib.Omega.{arith}
use borrow.Author.Tests.{ltb-true, le-ltb}
use lib.Dec.{eqb, ltb}
use lib.ListN.{length, get_or, set}
use Rattle.lists.specs.Outcome.{accepted, ◌>>◌}
use Rattle.lists.specs.Rows.{some, any_of, any_from}
use Rattle.lists.specs.Sort.{All, none, each}
use Rattle.lists.proofs.All.{all_at}
use Rattle.lists.proofs.Tests.{none_of, none_of_six, none_of_four}
use Rattle.lists.proofs.Outcomes.{same_accepted, then_inv, then_both, bind_inv}
use Rattle.tables.specs.Records.{numbered, split_before, split_fault}
use Rattle.tables.proofs.Laws.{partial_good, split_good}
use Rattle.faults.specs.Faults.{split_bad, split_misplaced}
use Rattle.faults.proofs.Laws.{split_end, split_in_section}
use Rattle.obj.specs.declared.Section.{Section}
use Rattle.obj.specs.declared.Split.{Split}
use Rattle.obj.specs.Nothing.{no_section, no_split}
use Rattle.sections.specs.Image.{Image}
use Rattle.sections.specs.Sections.{Sections}
use Rattle.sections.specs.Ends.{splitting_end}
use Rattle.splits.specs.Updates.{with_end}
use Rattle.splits.proofs.Rising.{SamePlace}
use Rattle.trim.specs.Trim.{ask_next, fall_of, falls_of, last_at, carry_one, carry_from, cut_to, cut_last, cut_from, trimmed}
use Rattle.trim.proofs.Ends.{endless, endless_one, section_turn, trim_passes, trim_keeps, same_length, same_row, same_section, same_start, last_same}

-- ---- the falls
module _ (g : Image) (head : ℕ → Section) where
  -- an end falls to below itself
  pub fall_low : (s : Split) (later : List Split) (fall : ℕ) → fall_of g head s later ≡ accepted fall → fall ≤ s.end
  unfolding fall_of
  fall_low s later fall e = let q = bind_inv _ _ _ e in go q.0 (ltb q.0 s.end) refl q.2
    where
      go : (end : ℕ) (t : Bool) → ltb end s.end ≡ t → cond t (ask_next g head s later >> accepted end) (accepted 0) ≡ accepted fall → fall ≤ s.end
      go end true h q = omega (arith, ltb-true end s.end h, same_accepted (then_both (ask_next g head s later) (accepted end) fall q).1)
      go end false h q = omega (arith, same_accepted q)

  -- the falls of a table, by rows
  pub falls_cons : (s : Split) (l : List Split) (falls : List ℕ) → falls_of g head (s ∷ l) ≡ accepted falls
      → (fall : ℕ) × (rest : List ℕ) × (fall_of g head s l ≡ accepted fall) × (falls_of g head l ≡ accepted rest) × (falls ≡ fall ∷ rest)
  unfolding falls_of
  falls_cons s l falls e =
      let a = bind_inv _ _ _ e in
      let b = bind_inv _ _ _ a.2 in
      (a.0, b.0, a.1, b.1, sym (same_accepted b.2))

  pub falls_none : (falls : List ℕ) → falls_of g head [] ≡ accepted falls → falls ≡ []
  unfolding falls_of
  falls_none falls e = sym (same_accepted e)

  pub falls_length : (l : List Split) (falls : List ℕ) → falls_of g head l ≡ accepted falls → length falls ≡ length l
  falls_length [] falls e = ap (λ (t : List ℕ). length t) (falls_none falls e)
  falls_length (s ∷ l) falls e =
      let q = falls_cons s l falls e in
      ap (λ (t : List ℕ). length t) q.4 ∙ ap suc (falls_length l q.1 q.3)

  pub falls_low : (l : List Split) (falls : List ℕ) (k : ℕ) → falls_of g head l ≡ accepted falls → k < length l → get_or falls k 0 ≤ (get_or l k no_split).end
  falls_low [] falls k e h = absurd (not-suc-le-zero h)
  falls_low (s ∷ l) falls zero e h =
      let q = falls_cons s l falls e in
      rw q.4 (fall_low s l q.0 q.2)
  falls_low (s ∷ l) falls (suc k) e h =
      let q = falls_cons s l falls e in
      rw q.4 (falls_low l q.1 k q.3 (le_of_suc-le-suc h))

-- ---- ends within bounds
module _ (bound : ℕ → ℕ) where
  abbrev pub Within : Split → Type 0
  Within s = s.end ≤ bound s.section

  all_set : (l : List Split) (k : ℕ) (x : Split) → All Within l → Within x → All Within (set l k x)
  all_set [] k x p h = none
  all_set (s ∷ l) zero x (each q p) h = each h p
  all_set (s ∷ l) (suc k) x (each q p) h = each q (all_set l k x p h)

  within_one : (k fall : ℕ) (l m : List Split) → k < length l → fall ≤ bound (get_or l k no_split).section → carry_one k fall l ≡ accepted m → All Within l → All Within m
  unfolding carry_one
  within_one k zero l m h q e p = subst (All Within) (same_accepted e) p
  within_one k (suc end) l m h q e p =
      subst (All Within) (same_accepted (then_inv 54 _ _ _ _ _ e).1)
      (all_set l (last_at l k) (with_end (suc end) (get_or l (last_at l k) no_split)) p (subst (λ (n : ℕ). suc end ≤ bound n) (sym (last_same l k h).section) q))

  within_carry : (falls : List ℕ) (k : ℕ) (l m : List Split) → k + length falls ≤ length l
      → ((i : ℕ) → i < length falls → get_or falls i 0 ≤ bound (get_or l (k + i) no_split).section) → carry_from k falls l ≡ accepted m → All Within l → All Within m
  unfolding carry_from
  within_carry [] k l m h q e p = subst (All Within) (same_accepted e) p
  within_carry (fall ∷ falls) k l m h q e p =
      let b = bind_inv _ _ _ e in
      let same = endless_one k fall l b.0 b.1 in
      within_carry falls (suc k) b.0 m (omega (arith, h, same_length l b.0 same))
      (λ i lt. subst (λ (n : ℕ). get_or falls i 0 ≤ bound n)
      (ap (λ (j : ℕ). (get_or l j no_split).section) (add-suc k i ∙ sym (suc-add k i)) ∙ sym (same_section l b.0 same (suc k + i))) (q (suc i) (suc-le-suc lt)))
      b.2
      (within_one k fall l b.0 (omega arith) (subst (λ (j : ℕ). fall ≤ bound (get_or l j no_split).section) (add-zero k) (q 0 (omega arith))) b.1 p)

  within-cut_to : (end : ℕ) (s : Split) → Within s → Within (cut_to end s)
  unfolding cut_to
  within-cut_to end s h = go (ltb end s.end) refl
    where
      go : (t : Bool) → ltb end s.end ≡ t → Within (cond t (with_end end s) s)
      go true e = omega (arith, ltb-true end s.end e, h)
      go false e = h

  within_cut : (n end : ℕ) (l : List Split) → All Within l → All Within (cut_last n end l)
  unfolding cut_last
  within_cut n end [] p = none
  within_cut n end (s ∷ l) (each q p) = go (eqb s.section n && not (some (λ y. eqb y.section n) l)) (within_cut n end l p)
    where
      go : (t : Bool) → All Within (cut_last n end l) → All Within (cond t (cut_to end s ∷ l) (s ∷ cut_last n end l))
      go true r = each (within-cut_to end s q) p
      go false r = each q r

  module _ (g : Image) (sections : Sections) where
    within_from : (k n : ℕ) (l m : List Split) → cut_from g sections k n l ≡ accepted m → All Within l → All Within m
    unfolding cut_from
    within_from zero n l m e p = subst (All Within) (same_accepted e) p
    within_from (suc k) n l m e p =
        let b = bind_inv _ _ _ e in
        within_from k (suc n) b.0 m b.2 (go b.0 (section_turn g sections n l b.0 b.1))
      where
        go : (c : List Split) → (c ≡ l) ⊎ ((end : ℕ) × (splitting_end g n (sections.head n) (sections.bytes n) ≡ accepted end) × (c ≡ cut_last n end l)) → All Within c
        go c (inl q) = subst (All Within) (sym q) p
        go c (inr q) = subst (All Within) (sym q.2) (within_cut n q.0 l p)

    -- THEOREM: what bounds the ends of each section before the trim bounds them after it
    pub trim_within : (rows out : List Split) → trimmed g sections rows ≡ accepted out → ((k : ℕ) → k < length rows → Within (get_or rows k no_split))
        → (k : ℕ) → k < length out → Within (get_or out k no_split)
    trim_within rows out e h k q =
        let p = trim_passes g sections rows out e in
        let size = falls_length g sections.head rows p.falls p.found in
        let low : (i : ℕ) → i < length p.falls → get_or p.falls i 0 ≤ bound (get_or rows (0 + i) no_split).section =
        λ i lt. subst (λ (j : ℕ). get_or p.falls i 0 ≤ bound (get_or rows j no_split).section) (sym (zero-add i))
        (let there : i < length rows = omega (arith, size, lt) in omega (arith, falls_low g sections.head rows p.falls i p.found there, h i there)) in
        all_at k no_split
        (within_from sections.count 0 p.fallen out p.cut
        (within_carry p.falls 0 rows p.fallen (omega (arith, size)) low p.carried (all_of rows h))) q
      where
        all_of : (l : List Split) → ((j : ℕ) → j < length l → Within (get_or l j no_split)) → All Within l
        all_of [] f = none
        all_of (s ∷ l) f = each (f 0 (omega arith)) (all_of l (λ j lt. f (suc j) (suc-le-suc lt)))

-- ---- check 7 again

-- a split with another end
bad_end : (unit_len rename_len : ℕ) (s : Split) (end : ℕ) → split_bad unit_len rename_len s ≡ false → end ≤ 4026531840 → split_bad unit_len rename_len (with_end end s) ≡ false
unfolding split_bad
bad_end unit_len rename_len s end e h =
    none_of_six _ _ _ _ _ _ (none_of _ 0 e) (none_of _ 1 e) (none_of _ 2 e) (none_of _ 3 e) (none_of _ 4 e) (le-ltb 4026531840 end h)

misplaced_end : (sections : ℕ) (home : Section) (before other s : Split) (end : ℕ) → other.section ≡ before.section → other.start ≡ before.start
    → split_misplaced sections home before s ≡ false → end ≤ home.address + home.size → split_misplaced sections home other (with_end end s) ≡ false
unfolding split_misplaced
misplaced_end sections home before other s end p q e h =
    none_of_four _ _ _ _ (none_of _ 0 e) (le-ltb (home.address + home.size) end h)
    (ap (ltb s.section) p ∙ none_of _ 2 e)
    (ap₂ (λ (a b : ℕ). eqb s.section a && ltb s.start b) p q ∙ none_of _ 3 e)

two : (a b : Bool) → a ≡ false → b ≡ false → numbered 7 (any_of (a ∷ b ∷ [])) ≡ 0
unfolding any_of any_from
two a b p q = rw (p, q)

-- the split before
before_same : (l m : List Split) → endless m ≡ endless l → (k : ℕ) → SamePlace (split_before l k) (split_before m k)
unfolding split_before
before_same l m same k = go (eqb k 0)
  where
    go : (t : Bool) → SamePlace (cond t no_split (get_or l (k - 1) no_split)) (cond t no_split (get_or m (k - 1) no_split))
    go true = record { section = refl; start = refl }
    go false = record { section = same_section l m same (k - 1); start = same_start l m same (k - 1) }

module _ (lengths : List ℕ) (heads : List Section) where
  -- the bound of a section's ends
  abbrev section_end : ℕ → ℕ
  section_end n = (get_or heads n no_section).address + (get_or heads n no_section).size

  -- split y of a table, `before` being the split before it
  abbrev fault_of : (before : Split) → Split → ℕ
  fault_of before y =
      numbered 7
      (any_of
      (split_bad (get_or lengths y.unit 0) (get_or lengths y.rename 0) y
      ∷ split_misplaced (length heads) (get_or heads y.section no_section) before y
      ∷ []))

  -- a table that is the same but for the ends, which lie within their bounds
  same_fault : (l m : List Split) → endless m ≡ endless l → (k : ℕ) → (get_or m k no_split).end ≤ 4026531840 → (get_or m k no_split).end ≤ section_end (get_or m k no_split).section
      → split_fault lengths heads l k ≡ 0 → split_fault lengths heads m k ≡ 0
  unfolding split_fault
  same_fault l m same k low inside e =
      let s : Split = get_or l k no_split in
      let end : ℕ = (get_or m k no_split).end in
      let good = split_good lengths heads l k e in
      let before = before_same l m same k in
      ap (fault_of (split_before m k)) (same_row l m same k)
      ∙ two _ _ (bad_end (get_or lengths s.unit 0) (get_or lengths s.rename 0) s end (partial_good lengths l k good.0) low)
      (misplaced_end (length heads) (get_or heads s.section no_section) (split_before l k) (split_before m k) s end before.section before.start good.1
      (subst (λ (n : ℕ). end ≤ section_end n) (same_section l m same k) inside))

  module _ (g : Image) (sections : Sections) where
    -- THEOREM: a table without a fault of a split table has none after the trim
    pub trim_faultless : (rows out : List Split) → trimmed g sections rows ≡ accepted out → ((k : ℕ) → k < length rows → split_fault lengths heads rows k ≡ 0)
        → (k : ℕ) → k < length out → split_fault lengths heads out k ≡ 0
    trim_faultless rows out e good k h =
        let same = trim_keeps g sections rows out e in
        same_fault rows out same k
        (trim_within (λ n. 4026531840) g sections rows out e (λ j q. split_end _ _ _ (partial_good lengths rows j (split_good lengths heads rows j (good j q)).0)) k h)
        (trim_within section_end g sections rows out e (λ j q. split_in_section _ _ _ _ (split_good lengths heads rows j (good j q)).1) k h)
        (good k (omega (arith, same_length rows out same)))
