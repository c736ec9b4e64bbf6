-- Every gap that is found lies in its section: it starts below its end, and ends at or below the section's end. The gaps rise by section and start, so no
-- two start at one address. Assumes nothing.
use mathlib.Core.Path.{◌≡◌, refl, subst}
use mathlib.Core.List.{List, [], ◌∷◌, ◌++◌}
use mathlib.Core.Bool.{Bool, true, false, cond}
use Prim.Native.Nat.{ℕ, zero, suc, ◌+◌, ◌≤◌, ◌<◌}
use native.Mathlib.Omega.{arith}
use lib.Dec.{leb, ltb, eqb}
use borrow.Author.Tests.{ltb-true}
use Rattle.std.proofs.lemmas.Bool.{and_parts}
use Rattle.lists.specs.Outcome.{Outcome, accepted, ◌>>=◌}
use Rattle.lists.specs.Sort.{All, none, each, Rising}
use Rattle.lists.proofs.All.{all_append, all_map}
use Rattle.lists.proofs.Filter.{keep_passes}
use Rattle.lists.proofs.Outcomes.{same_accepted, then_inv, bind_inv}
use Rattle.align.specs.Align.{align_up}
use Rattle.obj.specs.declared.Symbol.{Symbol}
use Rattle.obj.specs.declared.Split.{Split}
use Rattle.sections.specs.Image.{Image}
use Rattle.sections.specs.Sections.{Sections}
use Rattle.sections.specs.Alignment.{alignment_of}
use Rattle.sections.specs.Ends.{splitting_end}
use Rattle.sections.proofs.Kept.{end_within}
use Rattle.gap_columns.specs.Columns.{Gap, gap, key_of, placed, in_order}
use Rattle.gap_columns.proofs.Placed.{all_placed, rising_placed}
use Rattle.gaps.specs.Gaps.{end_after, gap_end, gaps_up_to, gaps_to, gaps_before, gaps_from, below, default_of, section_gaps, gaps_of, into, found_gaps}
use Rattle.gaps.specs.Found.{Lies}
use Rattle.gaps.proofs.Rounds.{gap_ended}

-- a gap of section n that ends at or below `end`
record Ends (n end : ℕ) (x : Gap) : Type 0 where
  home : x.section ≡ n
  forward : x.start < x.end
  within : x.end ≤ end

module _ (symbol : ℕ → Symbol) (count n : ℕ) where
  abbrev later_of : (most current next alignment end : ℕ) → Outcome (List Gap)
  later_of most current next alignment end = gaps_up_to symbol count most n end next alignment >>= λ later. accepted (gap n current end ∷ later)

  up_to_end : (most current next alignment end : ℕ) (gaps : List Gap) → next ≤ end → gaps_up_to symbol count most n current next alignment ≡ accepted gaps → All (Ends n end) gaps
  unfolding gaps_up_to
  up_to_end zero current next alignment end gaps h q = subst (All (Ends n end)) (same_accepted q) none
  up_to_end (suc most) current next alignment end gaps h q = go (ltb (align_up current alignment) next) (λ e l. up_to_end most e next alignment end l h) q
    where
      go : (t : Bool) → ((e : ℕ) (l : List Gap) → gaps_up_to symbol count most n e next alignment ≡ accepted l → All (Ends n end) l)
          → cond t (gap_end symbol count n current next >>= later_of most current next alignment) (accepted []) ≡ accepted gaps → All (Ends n end) gaps
      go false ih r = subst (All (Ends n end)) (same_accepted r) none
      go true ih r =
          let p = bind_inv (gap_end symbol count n current next) (later_of most current next alignment) gaps r in
          let s = bind_inv (gaps_up_to symbol count most n p.0 next alignment) (λ later. accepted (gap n current p.0 ∷ later)) gaps p.2 in
          let w = gap_ended symbol count n current next p.0 p.1 in
          subst (All (Ends n end)) (same_accepted s.2)
          (each {x = gap n current p.0} (record { home = refl; forward = w.above; within = omega (arith, w.within) }) (ih p.0 s.0 s.1))

  before_end : (least current end : ℕ) (s : Split) (gaps : List Gap) → s.start ≤ end → gaps_before symbol count n least current s ≡ accepted gaps → All (Ends n end) gaps
  unfolding gaps_before
  before_end least current end s gaps h e =
      let p = bind_inv (alignment_of symbol count n least s.alignment s.start s.end) _ gaps e in
      let q = then_inv 40 n current (ltb s.start current) (gaps_to symbol count n current s.start p.0.value) gaps p.2 in
      up_to_end _ current s.start p.0.value end gaps h q.1

  from_end : (least end current : ℕ) {l : List Split} → All (λ s. s.start ≤ end) l → (gaps : List Gap) → gaps_from symbol count n least end current l ≡ accepted gaps → All (Ends n end) gaps
  unfolding gaps_from
  from_end least end current none gaps e = up_to_end _ current end least end gaps (omega arith) e
  from_end least end current (each {x = s} {l = later} h all) gaps e = go (leb end current) (λ c. from_end least end c all) e
    where
      go : (t : Bool) → ((c : ℕ) → (more : List Gap) → gaps_from symbol count n least end c later ≡ accepted more → All (Ends n end) more)
          → cond t (accepted []) (gaps_before symbol count n least current s >>= λ before. gaps_from symbol count n least end (end_after end s later) later >>= λ more. accepted (before ++ more)) ≡ accepted gaps
          → All (Ends n end) gaps
      go true ih q = subst (All (Ends n end)) (same_accepted q) none
      go false ih q =
          let p = bind_inv (gaps_before symbol count n least current s) _ gaps q in
          let r = bind_inv (gaps_from symbol count n least end (end_after end s later) later) (λ more. accepted (p.0 ++ more)) gaps p.2 in
          subst (All (Ends n end)) (same_accepted r.2)
          (all_append (before_end least current end s p.0 h p.1) (ih (end_after end s later) r.0 r.1))

module _ (g : Image) (sections : Sections) (rows : List Split) where
  section_lies : (n : ℕ) → n < sections.count → (gaps : List Gap) → section_gaps g sections n rows ≡ accepted gaps → All (Lies sections) gaps
  unfolding section_gaps
  section_lies n h gaps e =
      let p = bind_inv (splitting_end g n (sections.head n) (sections.bytes n)) _ gaps e in
      let last = end_within g n (sections.head n) (sections.bytes n) p.0 p.1 in
      all_map (λ x w. lies x p.0 last w)
      (from_end g.symbol g.count n (default_of g sections n) p.0 (sections.head n).address
      (all_map (λ s t. start-below s p.0 t) (keep_passes (below n p.0) rows)) gaps p.2)
    where
      start-below : (s : Split) (end : ℕ) → below n end s ≡ true → s.start ≤ end
      start-below s end t = let q = ltb-true s.start end (and_parts (eqb s.section n) (ltb s.start end) t).1 in omega arith

      lies : (x : Gap) (end : ℕ) → end ≤ (sections.head n).address + (sections.head n).size → Ends n end x → Lies sections x
      lies x end last w = record {
        there = let e = w.home in omega arith;
        forward = w.forward;
        within = rw w.home (let q = w.within in omega arith);
      }

  of_lies : (k n : ℕ) → n + k ≤ sections.count → (gaps : List Gap) → gaps_of g sections k n rows ≡ accepted gaps → All (Lies sections) gaps
  unfolding gaps_of
  of_lies zero n h gaps e = subst (All (Lies sections)) (same_accepted e) none
  of_lies (suc k) n h gaps e =
      let p = bind_inv (section_gaps g sections n rows) _ gaps e in
      let r = bind_inv (gaps_of g sections k (suc n) rows) (λ more. accepted (p.0 ++ more)) gaps p.2 in
      subst (All (Lies sections)) (same_accepted r.2)
      (all_append (section_lies n (omega arith) p.0 p.1) (of_lies k (suc n) (omega arith) r.0 r.1))

  all_in_order : {P : Gap → Type 0} (before : List Gap) {gaps : List Gap} → All P before → All P gaps → All P (in_order before gaps)
  unfolding in_order
  all_in_order before b none = b
  all_in_order before b (each {x} h p) = all_in_order (placed x before) (all_placed x h b) p

  -- THEOREM: every gap lies in its section
  pub found_lies : (gaps : List Gap) → found_gaps g sections rows ≡ accepted gaps → All (Lies sections) gaps
  unfolding found_gaps into
  found_lies gaps e =
      let p = bind_inv (gaps_of g sections sections.count 0 rows) _ gaps e in
      subst (All (Lies sections)) (same_accepted p.2) (all_in_order [] none (of_lies sections.count 0 (omega arith) p.0 p.1))

  rising_in_order : (before gaps : List Gap) → Rising key_of before → Rising key_of (in_order before gaps)
  unfolding in_order
  rising_in_order before [] r = r
  rising_in_order before (x ∷ gaps) r = rising_in_order (placed x before) gaps (rising_placed x before r)

  -- THEOREM: gaps stand by section and start, no two at one
  pub found_rising : (gaps : List Gap) → found_gaps g sections rows ≡ accepted gaps → Rising key_of gaps
  unfolding found_gaps into Rising
  found_rising gaps e =
      let p = bind_inv (gaps_of g sections sections.count 0 rows) _ gaps e in
      subst (Rising key_of) (same_accepted p.2) (rising_in_order [] p.0 tt)
