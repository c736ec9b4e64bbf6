-- The search over a section's splits with the splits of its gaps among them finds nothing: each gap's split starts where the search stands, and
-- where the first search found no more gap before a split, there is none now. Assumes nothing.
use mathlib.Core.Path.{◌≡◌, refl, sym, ap, subst, ◌∙◌}
use mathlib.Core.List.{List, [], ◌∷◌, ◌++◌, map, map-append, append-nil}
use mathlib.Core.Bool.{Bool, true, false, cond, not, ◌&&◌}
use mathlib.Core.Logic.{inl, inr}
use Prim.Native.Nat.{ℕ, zero, suc, ◌+◌, ◌-◌, ◌*◌, ◌/◌, ◌≤◌, ◌<◌}
use native.Mathlib.Nat.{lt-div-mul-add}
use native.Mathlib.Omega.{arith}
use lib.Arith.{lt_of_le-ne}
use lib.Dec.{eqb, leb, ltb}
use borrow.Author.Tests.{le-ltb, lt-leb, ne_eqb, ltb-false, eqb-false}
use Rattle.lists.specs.Outcome.{accepted, ◌>>=◌}
use Rattle.lists.specs.Sort.{All, none, each, Sorted, Rising, merge_by}
use Rattle.lists.proofs.All.{all_append, all_map, all_any, all_both}
use Rattle.lists.proofs.Binds.{bind_goes, bind_same}
use Rattle.lists.proofs.Merge.{merge_nil}
use Rattle.lists.proofs.Outcomes.{same_accepted, passes, then_inv, bind_inv}
use Rattle.align.specs.Align.{align_up}
use Rattle.obj.specs.declared.Symbol.{Symbol}
use Rattle.obj.specs.declared.Split.{Split}
use Rattle.symbols.specs.Ranges.{has_symbols, highest_in}
use Rattle.sections.specs.Alignment.{Chosen, given, larger, alignment_of}
use Rattle.gap_columns.specs.Columns.{Gap, gap, key_of}
use Rattle.gaps.specs.Gaps.{end_after, gap_end, gaps_up_to, gaps_to, gaps_before, gaps_from}
use Rattle.gaps.proofs.Rounds.{gap_ended}
use Rattle.splits.specs.Questions.{next_start}
use Rattle.gap_twice.specs.Twice.{split_key, gap_row, with_gap_splits, Forward}
use Rattle.gap_twice.proofs.MergedByKey.{merge_cut, rising_append}

-- a gap of section n in from..to
pub record Spans (n from to : ℕ) (x : Gap) : Type 0 where
  pub home : x.section ≡ n
  pub low : from ≤ x.start
  pub forward : x.start < x.end
  pub high : x.end ≤ to

widen : (n a b c d : ℕ) → a ≤ b → c ≤ d → (x : Gap) → Spans n b c x → Spans n a d x
widen n a b c d h l x s = record { home = s.home; low = omega (arith, s.low); forward = s.forward; high = omega (arith, s.high) }

-- ---- alignments

-- aligning up by any number that is not 0 does not go below
pub up : (v a : ℕ) → 0 < a → v ≤ align_up v a
unfolding align_up
up v a h = let q : v + (a - 1) < (v + (a - 1)) / a * a + a = lt-div-mul-add h in omega arith

module _ (symbol : ℕ → Symbol) (count n : ℕ) where
  -- a chosen alignment is not 0, where the default is not
  positive : (least own start end : ℕ) (c : Chosen) → 0 < least → alignment_of symbol count n least own start end ≡ accepted c → 0 < c.value
  unfolding alignment_of larger
  positive least own start end c h e = go (eqb own 0) refl e
    where
      go : (t : Bool) → eqb own 0 ≡ t
          → cond (not t) (accepted (record { value = own; reason = given })) (highest_in symbol count n start end >>= λ highest. accepted (larger least highest)) ≡ accepted c → 0 < c.value
      go true q r = let p = bind_inv (highest_in symbol count n start end) (λ highest. accepted (larger least highest)) c (r) in rw (sym (same_accepted p.2)) (omega arith)
      go false q r = let z = eqb-false own 0 q in rw (sym (same_accepted r)) (omega arith)

  -- that of a gap's split is accepted
  gap_alignment : (least start end : ℕ) → start ≤ end → (c : Chosen) × (alignment_of symbol count n least 0 start end ≡ accepted c)
  unfolding alignment_of highest_in
  gap_alignment least start end h =
      let e : (ltb end start && has_symbols symbol count n) ≡ false = rw (le-ltb end start h) in
      let q = passes 11 n start (ltb end start && has_symbols symbol count n) _ e in (_, bind_goes _ (λ highest. accepted (larger least highest)) _ q)

  -- ---- no gap is found

  -- where the next start is not above the aligned current address
  none-up_to : (most current next alignment : ℕ) → next ≤ align_up current alignment → gaps_up_to symbol count most n current next alignment ≡ accepted []
  unfolding gaps_up_to
  none-up_to zero current next alignment h = refl
  none-up_to (suc most) current next alignment h = rw (le-ltb (align_up current alignment) next h)

  -- before a split whose alignment is accepted
  none_before : (least current : ℕ) (s : Split) (c : Chosen) → alignment_of symbol count n least s.alignment s.start s.end ≡ accepted c → current ≤ s.start
      → s.start ≤ align_up current c.value → gaps_before symbol count n least current s ≡ accepted []
  unfolding gaps_before
  none_before least current s c e h q =
      bind_goes (alignment_of symbol count n least s.alignment s.start s.end) _ c e
      ∙ passes 40 n current (ltb s.start current) _ (le-ltb s.start current h)
      ∙ none-up_to (s.start - current) current s.start c.value q

  -- what gaps that were found before a split tell
  before_inv : (least current : ℕ) (s : Split) (gaps : List Gap) → gaps_before symbol count n least current s ≡ accepted gaps
      → (c : Chosen) × (alignment_of symbol count n least s.alignment s.start s.end ≡ accepted c) × (current ≤ s.start) × (gaps_to symbol count n current s.start c.value ≡ accepted gaps)
  unfolding gaps_before
  before_inv least current s gaps e =
      let p = bind_inv (alignment_of symbol count n least s.alignment s.start s.end) _ gaps e in
      let q = then_inv 40 n current (ltb s.start current) (gaps_to symbol count n current s.start p.0.value) gaps p.2 in
      (p.0, p.1, ltb-false s.start current q.0, q.1)

  module _ (least end : ℕ) (small : 0 < least) where
    -- a split before which there is no gap is passed: the search goes on from where it ends
    pass : (current : ℕ) (s : Split) (later : List Split) → current < end → gaps_before symbol count n least current s ≡ accepted []
        → gaps_from symbol count n least end current (s ∷ later) ≡ gaps_from symbol count n least end (end_after end s later) later
    unfolding gaps_from
    pass current s later h e = rw (lt-leb end current h) (bind_goes (gaps_before symbol count n least current s) _ [] e ∙ bind_same (gaps_from symbol count n least end (end_after end s later) later))

    module _ (unit : Gap → ℕ) where
      -- the split of a gap that starts at the current address
      over-gap : (current e : ℕ) (later : List Split) → current < e → current < end
          → gaps_from symbol count n least end current (gap_row unit (gap n current e) ∷ later) ≡ gaps_from symbol count n least end e later
      unfolding end_after
      over-gap current e later h l =
          let a = gap_alignment least current e (omega arith) in
          pass current (gap_row unit (gap n current e)) later l
          (none_before least current (gap_row unit (gap n current e)) a.0 a.1 (omega arith) (up current a.0.value (positive least 0 current e a.0 small a.1)))
          ∙ rw (ne_eqb e 0 (λ z. omega arith))

      -- ---- the gaps up to a next start

      -- these gaps are found from `current` on: over their splits the search goes on to `last`, from where there is no gap
      record Passed (current next alignment : ℕ) (gaps : List Gap) : Type 0 where
        last : ℕ
        same : (later : List Split) → gaps_from symbol count n least end current (map (gap_row unit) gaps ++ later) ≡ gaps_from symbol count n least end last later
        above : current ≤ last
        below : current ≤ next → last ≤ next
        closed : next ≤ align_up last alignment
        spans : All (Spans n current next) gaps
        rising : Rising key_of gaps

      none_passed : (current next alignment : ℕ) → next ≤ align_up current alignment → Passed current next alignment []
      unfolding Rising
      none_passed current next alignment h = record { last = current; same = λ later. refl; above = omega arith; below = λ q. q; closed = h; spans = none; rising = tt }

      one_passed : (current next alignment e : ℕ) (later : List Gap) → current < e → e ≤ next → next ≤ end → Passed e next alignment later → Passed current next alignment (gap n current e ∷ later)
      unfolding Rising
      one_passed current next alignment e later h l m p = record {
        last = p.last;
        same = λ rows. over-gap current e (map (gap_row unit) later ++ rows) h (omega arith) ∙ p.same rows;
        above = omega (arith, p.above);
        below = λ q. p.below l;
        closed = p.closed;
        spans = each {x = gap n current e} (record { home = refl; low = omega arith; forward = h; high = l }) (all_map (widen n current e next next (omega arith) (omega arith)) p.spans);
        rising = (all_map (λ x s. omega (arith, s.home, s.low)) p.spans, p.rising);
      }

      up_to_passed : (most current next alignment : ℕ) (gaps : List Gap) → 0 < alignment → next - current ≤ most → next ≤ end
          → gaps_up_to symbol count most n current next alignment ≡ accepted gaps → Passed current next alignment gaps
      unfolding gaps_up_to
      up_to_passed zero current next alignment gaps a h l q = subst (Passed current next alignment) (same_accepted q) (none_passed current next alignment (omega (arith, up current alignment a)))
      up_to_passed (suc most) current next alignment gaps a h l q = go (ltb (align_up current alignment) next) refl (λ e r. up_to_passed most e next alignment r a) q
        where
          go : (t : Bool) → ltb (align_up current alignment) next ≡ t → ((e : ℕ) (r : List Gap) → next - e ≤ most → next ≤ end → gaps_up_to symbol count most n e next alignment ≡ accepted r → Passed e next alignment r)
              → cond t (gap_end symbol count n current next >>= λ e. gaps_up_to symbol count most n e next alignment >>= λ later. accepted (gap n current e ∷ later)) (accepted []) ≡ accepted gaps
              → Passed current next alignment gaps
          go false t ih r = subst (Passed current next alignment) (same_accepted r) (none_passed current next alignment (ltb-false (align_up current alignment) next t))
          go true t ih r =
              let p = bind_inv (gap_end symbol count n current next) _ gaps r in
              let s = bind_inv (gaps_up_to symbol count most n p.0 next alignment) (λ later. accepted (gap n current p.0 ∷ later)) gaps p.2 in
              let w = gap_ended symbol count n current next p.0 p.1 in
              subst (Passed current next alignment) (same_accepted s.2)
              (one_passed current next alignment p.0 s.0 w.above w.within l (ih p.0 s.0 (omega (arith, w.above)) l s.1))

      -- ---- the gaps of a section

      -- a split of section n that starts below the splitting end, with an end that is 0 or above its start
      pub record Fits (s : Split) : Type 0 where
        pub home : s.section ≡ n
        pub start : s.start < end
        pub forward : Forward s

      -- these gaps are found from `current` on: over the splits with theirs among them none is found
      pub record Again (current : ℕ) (rows : List Split) (gaps : List Gap) : Type 0 where
        pub nothing : gaps_from symbol count n least end current (with_gap_splits unit gaps rows) ≡ accepted []
        pub spans : All (Spans n current end) gaps
        pub rising : Rising key_of gaps
        pub apart : All (λ s. All (λ x. x.start ≡ s.start → ⊥) gaps) rows

      -- where no split is left
      last_again : (current : ℕ) (gaps : List Gap) → gaps_to symbol count n current end least ≡ accepted gaps → Again current [] gaps
      unfolding gaps_from
      last_again current gaps e =
          let p = up_to_passed (end - current) current end least gaps small (omega arith) (omega arith) e in record {
            nothing = ap (gaps_from symbol count n least end current) (merge_nil split_key (map (gap_row unit) gaps) ∙ sym (append-nil (map (gap_row unit) gaps))) ∙ p.same [] ∙ none-up_to (end - p.last) p.last end least p.closed;
            spans = p.spans;
            rising = p.rising;
            apart = none;
          }

      -- the search has come to its end
      ended_again : (current : ℕ) (rows : List Split) → gaps_from symbol count n least end current rows ≡ accepted [] → Again current rows []
      unfolding merge_by Rising
      ended_again current rows e = record { nothing = e; spans = none; rising = tt; apart = all_any (λ s. none) rows }

      -- the address after a split is not below its start
      after_from : (s : Split) (later : List Split) → Fits s → All (λ y. split_key s ≤ split_key y) later → All Fits later → s.start ≤ end_after end s later
      unfolding end_after next_start
      after_from s later f r all = go (eqb s.end 0) refl f.forward later r all
        where
          go : (t : Bool) → eqb s.end 0 ≡ t → Forward s → (l : List Split) → All (λ y. split_key s ≤ split_key y) l → All Fits l → s.start ≤ cond t (next_start end l) s.end
          go false q (inl z) l rl al = absurd (eqb-false s.end 0 q z)
          go false q (inr h) l rl al = omega arith
          go true q h [] rl al = omega (arith, f.start)
          go true q h (y ∷ l) (each a rl) (each b al) = omega (arith, a, b.home, f.home)

      -- the gaps after a split start above its start: where the next split starts with it, no gap does
      gaps_above : (s : Split) (later : List Split) (more : List Gap) → Fits s → All (λ y. split_key s ≤ split_key y) later → All Fits later → Again (end_after end s later) later more → All (λ x. s.start < x.start) more
      unfolding end_after next_start
      gaps_above s later more f r all g = go (eqb s.end 0) refl f.forward later r all g.spans g.apart
        where
          go : (t : Bool) → eqb s.end 0 ≡ t → Forward s → (l : List Split) → All (λ y. split_key s ≤ split_key y) l → All Fits l
              → All (Spans n (cond t (next_start end l) s.end) end) more → All (λ y. All (λ x. x.start ≡ y.start → ⊥) more) l → All (λ x. s.start < x.start) more
          go false q (inl z) l rl al w a = absurd (eqb-false s.end 0 q z)
          go false q (inr h) l rl al w a = all_map (λ x v. omega (arith, v.low)) w
          go true q h [] rl al w a = all_map (λ x v. omega (arith, v.low, f.start)) w
          go true q h (y ∷ l) (each b rl) (each c al) w (each d a) = all_map (λ x v. let z = lt_of_le-ne v.0.low (λ e. v.1 (sym e)) in omega (arith, z, b, c.home, f.home)) (all_both w d)

      -- it is the same with the splits of later gaps among the later splits
      after_same : (s : Split) (later : List Split) (more : List Gap) → Again (end_after end s later) later more → All Fits later → end_after end s (with_gap_splits unit more later) ≡ end_after end s later
      unfolding end_after next_start merge_by
      after_same s later more g all = go (eqb s.end 0) refl later more g.spans g.apart all
        where
          go : (t : Bool) → eqb s.end 0 ≡ t → (l : List Split) (m : List Gap) → All (Spans n (cond t (next_start end l) s.end) end) m → All (λ y. All (λ x. x.start ≡ y.start → ⊥) m) l → All Fits l
              → cond t (next_start end (with_gap_splits unit m l)) s.end ≡ cond t (next_start end l) s.end
          go false q l m p a f = refl
          go true q [] [] p a f = refl
          go true q [] (x ∷ m) (each p ps) a f = absurd (omega (arith, p.low, p.forward, p.high))
          go true q (y ∷ l) [] p a f = refl
          go true q (y ∷ l) (x ∷ m) (each p ps) (each (each a others) b) (each c f) =
              rw (lt-leb (split_key (gap_row unit x)) (split_key y) (let z = lt_of_le-ne p.low (λ e. a (sym e)) in omega (arith, z, p.home, c.home)))

      -- one split, with the gaps before it, and then the others
      next_again : (current : ℕ) (s : Split) (later : List Split) (chosen : Chosen) (before more : List Gap) → Fits s → All Fits later → All (λ y. split_key s ≤ split_key y) later
          → alignment_of symbol count n least s.alignment s.start s.end ≡ accepted chosen → current ≤ s.start
          → Passed current s.start chosen.value before → Again (end_after end s later) later more → Again current (s ∷ later) (before ++ more)
      next_again current s later chosen before more f all r a h p g =
          let from = after_from s later f r all in
          let above = gaps_above s later more f r all g in record {
            nothing =
                ap (gaps_from symbol count n least end current)
                (ap (λ (l : List Split). merge_by split_key l (s ∷ later)) (map-append (gap_row unit) before more) ∙ merge_cut split_key s later (map (gap_row unit) more) (rows_before p.spans) (rows-after (all_both g.spans above)))
                ∙ p.same (s ∷ with_gap_splits unit more later)
                ∙ pass p.last s (with_gap_splits unit more later) (omega (arith, p.below h, f.start)) (none_before least p.last s chosen a (p.below h) p.closed)
                ∙ ap (λ (c : ℕ). gaps_from symbol count n least end c (with_gap_splits unit more later)) (after_same s later more g all)
                ∙ g.nothing;
            spans =
                all_append (all_map (widen n current current s.start end (omega arith) (omega (arith, f.start))) p.spans)
                (all_map (widen n current (end_after end s later) end end (omega arith) (omega arith)) g.spans);
            rising = rising_append key_of p.rising g.rising (all_map (λ x w. all_map (λ y v. omega (arith, w.home, w.forward, w.high, v.home, v.low)) g.spans) p.spans);
            apart =
                each (all_append (all_map (λ x w (e : x.start ≡ s.start). omega (arith, w.forward, w.high)) p.spans) (all_map (λ x (w : s.start < x.start) (e : x.start ≡ s.start). omega arith) above))
                (all_map (λ y q. all_append (all_map (λ x w (e : x.start ≡ y.start). omega (arith, w.forward, w.high, q.1.0, q.1.1.home, f.home)) p.spans) q.0) (all_both g.apart (all_both r all)));
          }
        where
          rows_before : {l : List Gap} → All (Spans n current s.start) l → All (λ x. split_key x ≤ split_key s) (map (gap_row unit) l)
          rows_before none = none
          rows_before (each {x} w q) = each {x = gap_row unit x} (omega (arith, w.home, w.forward, w.high, f.home)) (rows_before q)

          rows-after : {l : List Gap} → All (λ x. Spans n (end_after end s later) end x × (s.start < x.start)) l → All (λ x. split_key s < split_key x) (map (gap_row unit) l)
          rows-after none = none
          rows-after (each {x} w q) = each {x = gap_row unit x} (omega (arith, w.0.home, w.1, f.home)) (rows-after q)

      -- THEOREM: where the search of a section finds gaps, it finds none over the section's splits with those of the gaps among them
      pub from_again : (current : ℕ) (gaps : List Gap) {rows : List Split} → All Fits rows → Sorted split_key rows → gaps_from symbol count n least end current rows ≡ accepted gaps → Again current rows gaps
      unfolding gaps_from Sorted
      from_again current gaps none r e = last_again current gaps e
      from_again current gaps (each {x = s} {l = later} f all) r e = go (leb end current) refl (λ c more. from_again c more all r.1) e
        where
          go : (t : Bool) → leb end current ≡ t → ((c : ℕ) → (more : List Gap) → gaps_from symbol count n least end c later ≡ accepted more → Again c later more)
              → cond t (accepted []) (gaps_before symbol count n least current s >>= λ before. gaps_from symbol count n least end (end_after end s later) later >>= λ more. accepted (before ++ more)) ≡ accepted gaps
              → Again current (s ∷ later) gaps
          go true t ih q = subst (Again current (s ∷ later)) (same_accepted q) (ended_again current (s ∷ later) (rw t))
          go false t ih q =
              let p = bind_inv (gaps_before symbol count n least current s) _ gaps q in
              let w = bind_inv (gaps_from symbol count n least end (end_after end s later) later) (λ more. accepted (p.0 ++ more)) gaps p.2 in
              let b = before_inv least current s p.0 p.1 in
              subst (Again current (s ∷ later)) (same_accepted w.2)
              (next_again current s later b.0 p.0 w.0 f all r.0 b.1 b.2
              (up_to_passed (s.start - current) current s.start b.0.value p.0 (positive least s.alignment s.start s.end b.0 small b.1) (omega arith) (omega (arith, f.start)) b.3)
              (ih (end_after end s later) w.0 w.1))
