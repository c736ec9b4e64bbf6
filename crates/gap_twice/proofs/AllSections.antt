-- The search over all sections finds nothing where the splits of the gaps stand among the others: the gaps rise by section and start, so those of a section are
-- what the section's own search found. Assumes nothing.
use mathlib.Core.Path.{◌≡◌, refl, sym, ap, subst, ◌∙◌}
use mathlib.Core.List.{List, [], ◌∷◌, ◌++◌, map, append-nil, append_assoc}
use mathlib.Core.Bool.{Bool, true, false, cond, ◌||◌, false≢true}
use mathlib.Core.Logic.{◌⊎◌, inl, inr}
use Prim.Native.Nat.{ℕ, zero, suc, ◌+◌, ◌≤◌, ◌<◌}
use native.Mathlib.Omega.{arith}
use lib.Dec.{eqb, ltb}
use borrow.Author.Tests.{lt-ltb, le-ltb, eq-eqb, ne_eqb, ltb-true, eqb-true}
use Rattle.std.proofs.lemmas.Bool.{and_parts, cases_lt}
use Rattle.lists.specs.Outcome.{accepted}
use Rattle.lists.specs.Rows.{keep_if}
use Rattle.lists.specs.Sort.{All, none, each, Sorted, Rising, merge_by}
use Rattle.lists.proofs.All.{all_append, all_map, all_any, all_both, all_keep}
use Rattle.lists.proofs.Binds.{bind_goes}
use Rattle.lists.proofs.Filter.{keep_append, keep_all, keep_nothing, keep_passes, map_keep}
use Rattle.lists.proofs.Outcomes.{same_accepted, bind_inv}
use Rattle.obj.specs.declared.Split.{Split}
use Rattle.names.specs.Fixed.{is_four_aligned}
use Rattle.sections.specs.Image.{Image}
use Rattle.sections.specs.Sections.{Sections}
use Rattle.sections.specs.Alignment.{default_alignment}
use Rattle.sections.specs.Ends.{splitting_end}
use Rattle.sections.proofs.Kept.{end_within}
use Rattle.gap_columns.specs.Columns.{Gap, key_of, placed, in_order}
use Rattle.gaps.specs.Gaps.{gaps_from, below, default_of, section_gaps, gaps_of, into, found_gaps}
use Rattle.gap_twice.specs.Twice.{split_key, gap_row, with_gap_splits, Forward, Low}
use Rattle.gap_twice.proofs.MergedByKey.{all_kept, rising_append, rising_sorted, sorted_keep, keep_merge}
use Rattle.gap_twice.proofs.OneSection.{Spans, Fits, Again, from_again}

-- ---- gaps that rise are in order
module _ (x : Gap) where
  placed_last : {l : List Gap} → All (λ y. key_of y < key_of x) l → placed x l ≡ l ++ (x ∷ [])
  unfolding placed
  placed_last none = refl
  placed_last (each {x = y} {l} h p) = rw (le-ltb (key_of x) (key_of y) (omega arith), ne_eqb (key_of x) (key_of y) (λ e. omega arith)) (ap (λ (t : List Gap). y ∷ t) (placed_last p))

in_order_rising : (before gaps : List Gap) → Rising key_of gaps → All (λ x. All (λ y. key_of y < key_of x) before) gaps → in_order before gaps ≡ before ++ gaps
unfolding in_order Rising
in_order_rising before [] r none = sym (append-nil before)
in_order_rising before (x ∷ gaps) r (each h p) =
    ap (λ (l : List Gap). in_order l gaps) (placed_last x h)
    ∙ in_order_rising (before ++ (x ∷ [])) gaps r.1 (all_map (λ y q. all_append q.0 (each q.1 none)) (all_both p r.0))
    ∙ append_assoc before (x ∷ []) gaps

-- a gap and a split with one key start at one place
same_place : (x : Gap) (s : Split) → x.start < 4294967296 → Low s → key_of x ≡ split_key s → (x.section ≡ s.section) × (x.start ≡ s.start)
same_place x s h l e = let q : x.section ≡ s.section = omega arith in (q, omega arith)

-- their splits rise too
module _ (unit : Gap → ℕ) where
  pub all_rows : (x : Gap) {l : List Gap} → All (λ y. key_of x < key_of y) l → All (λ s. key_of x < split_key s) (map (gap_row unit) l)
  all_rows x none = none
  all_rows x (each {x = y} h p) = each {x = gap_row unit y} h (all_rows x p)

  pub rising_rows : (l : List Gap) → Rising key_of l → Rising split_key (map (gap_row unit) l)
  unfolding Rising
  rising_rows [] r = tt
  rising_rows (x ∷ l) r = (all_rows x r.0, rising_rows l r.1)

module _ (g : Image) (sections : Sections) (unit : Gap → ℕ) (rows : List Split) (sorted : Sorted split_key rows) (forward : All Forward rows) (low : All Low rows) where
  default_small : (n : ℕ) → 0 < default_of g sections n
  unfolding default_alignment
  default_small n = go (eqb (sections.head n).kind 0 || is_four_aligned (g.name (sections.head n).name))
    where
      go : (t : Bool) → 0 < cond t 4 8
      go true = omega arith
      go false = omega arith

  -- ---- one section

  -- what the search of section n found, and that it finds nothing again
  record SectionAgain (n : ℕ) (gaps : List Gap) : Type 0 where
    end : ℕ
    is : splitting_end g n (sections.head n) (sections.bytes n) ≡ accepted end
    again : Again g.symbol g.count n (default_of g sections n) end (default_small n) unit (sections.head n).address (keep_if (below n end) rows) gaps

  section_again : (n : ℕ) (gaps : List Gap) → section_gaps g sections n rows ≡ accepted gaps → SectionAgain n gaps
  unfolding section_gaps
  section_again n gaps e =
      let p = bind_inv (splitting_end g n (sections.head n) (sections.bytes n)) _ gaps e in record {
        end = p.0;
        is = p.1;
        again =
            from_again g.symbol g.count n (default_of g sections n) p.0 (default_small n) unit (sections.head n).address gaps
            (all_map (λ s q. fits p.0 s q.0 q.1) (all_both (all_keep (below n p.0) forward) (keep_passes (below n p.0) rows))) (sorted_keep split_key (below n p.0) rows sorted) p.2;
      }
    where
      fits : (end : ℕ) (s : Split) → Forward s → below n end s ≡ true
          → Fits g.symbol g.count n (default_of g sections n) end (default_small n) unit s
      fits end s f t = let q = and_parts (eqb s.section n) (ltb s.start end) t in record { home = eqb-true s.section n q.0; start = ltb-true s.start end q.1; forward = f }

  -- the gaps' splits that the section's search looks at
  abbrev seen : (n end : ℕ) → Gap → Bool
  seen n end x = below n end (gap_row unit x)

  section_nothing : (n : ℕ) (own all : List Gap) (a : SectionAgain n own) → Rising key_of all → keep_if (seen n a.end) all ≡ own → section_gaps g sections n (with_gap_splits unit all rows) ≡ accepted []
  unfolding section_gaps
  section_nothing n own all a r e =
      bind_goes (splitting_end g n (sections.head n) (sections.bytes n)) _ a.end a.is
      ∙ ap (gaps_from g.symbol g.count n (default_of g sections n) a.end (sections.head n).address)
      (keep_merge split_key (below n a.end) (map (gap_row unit) all) rows (rising_sorted split_key (map (gap_row unit) all) (rising_rows unit all r)) sorted
      ∙ ap (λ (l : List Split). merge_by split_key l (keep_if (below n a.end) rows)) (sym (map_keep (gap_row unit) (below n a.end) all) ∙ ap (map (gap_row unit)) e))
      ∙ a.again.nothing

  -- no gap of section n starts where a split does
  section_apart : (n : ℕ) (gaps : List Gap) (a : SectionAgain n gaps) → a.end ≤ 4026531840 → All (λ s. All (λ x. key_of x ≡ split_key s → ⊥) gaps) rows
  section_apart n gaps a h = all_map (λ s q. go s q.1 (below n a.end s) refl q.0) (all_both (all_kept (below n a.end) rows a.again.apart) low)
    where
      there : (s : Split) (x : Gap) → Low s → Spans n (sections.head n).address a.end x → key_of x ≡ split_key s → below n a.end s ≡ true
      there s x l w e = let q = same_place x s (omega (arith, w.forward, w.high)) l e in rw (eq-eqb s.section n (sym q.0 ∙ w.home), lt-ltb s.start a.end (omega (arith, q.1, w.forward, w.high)))

      go : (s : Split) → Low s → (t : Bool) → below n a.end s ≡ t → (below n a.end s ≡ true → All (λ x. x.start ≡ s.start → ⊥) gaps) → All (λ x. key_of x ≡ split_key s → ⊥) gaps
      go s l true t q = all_map (λ x w (e : key_of x ≡ split_key s). w.1 (same_place x s (omega (arith, w.0.forward, w.0.high)) l e).1) (all_both a.again.spans (q t))
      go s l false t q = all_map (λ x w (e : key_of x ≡ split_key s). false≢true (sym t ∙ there s x l w e)) a.again.spans

  -- ---- all sections

  -- the gaps of section m among these are what its search found
  abbrev Picks : (m : ℕ) → List Gap → Type 0
  Picks m gaps = (own : List Gap) × (a : SectionAgain m own) × (keep_if (seen m a.end) gaps ≡ own)

  -- what was found in k sections from section n on
  record Listed (k n : ℕ) (gaps : List Gap) : Type 0 where
    later : All (λ x. (n ≤ x.section) × (x.start < 4294967296)) gaps
    rising : Rising key_of gaps
    apart : All (λ s. All (λ x. key_of x ≡ split_key s → ⊥) gaps) rows
    picks : (m : ℕ) → n ≤ m → m < n + k → Picks m gaps

  none-listed : (n : ℕ) → Listed zero n []
  unfolding Rising
  none-listed n = record { later = none; rising = tt; apart = all_any (λ s. none) rows; picks = λ m h l. absurd (omega arith) }

  -- one section more
  one_listed : (k n : ℕ) (own more : List Gap) (a : SectionAgain n own) → a.end ≤ 4026531840 → Listed k (suc n) more → Listed (suc k) n (own ++ more)
  one_listed k n own more a h p = record {
    later = all_append (all_map (λ x w. (omega (arith, w.home), omega (arith, w.forward, w.high))) spans) (all_map (λ x w. (omega (arith, w.0), w.1)) p.later);
    rising = rising_append key_of a.again.rising p.rising (all_map (λ x w. all_map (λ y v. omega (arith, w.home, w.forward, w.high, v.0)) p.later) spans);
    apart = all_map (λ s q. all_append q.0 q.1) (all_both (section_apart n own a h) p.apart);
    picks = λ m l q. pick m q (cases_lt n m) l;
  }
    where
      spans : All (Spans n (sections.head n).address a.end) own
      spans = a.again.spans

      elsewhere : (m end : ℕ) (x : Gap) → (x.section ≡ m → ⊥) → seen m end x ≡ false
      elsewhere m end x q = rw (ne_eqb x.section m q)

      here : Picks n (own ++ more)
      here = (
        own,
        a,
        keep_append (seen n a.end) own more
            ∙ ap (λ (l : List Gap). l ++ keep_if (seen n a.end) more) (keep_all (seen n a.end) own (all_map (λ x w. rw (eq-eqb x.section n w.home, lt-ltb x.start a.end (omega (arith, w.forward, w.high)))) spans))
            ∙ ap (λ (l : List Gap). own ++ l) (keep_nothing (seen n a.end) more (all_map (λ x w. elsewhere n a.end x (λ e. omega (arith, w.0, e))) p.later))
            ∙ append-nil own,
      )

      there : (m : ℕ) → n < m → Picks m more → Picks m (own ++ more)
      there m l q = (
        q.0,
        q.1,
        keep_append (seen m q.1.end) own more
            ∙ ap (λ (l : List Gap). l ++ keep_if (seen m q.1.end) more) (keep_nothing (seen m q.1.end) own (all_map (λ x w. elsewhere m q.1.end x (λ e. omega (arith, w.home, e))) spans))
            ∙ q.2,
      )

      pick : (m : ℕ) → m < n + suc k → (n < m) ⊎ (m ≤ n) → n ≤ m → Picks m (own ++ more)
      pick m q (inl l) j = there m l (p.picks m l (omega arith))
      pick m q (inr l) j = subst (λ (i : ℕ). Picks i (own ++ more)) (let e : n ≡ m = omega arith in e) here

  module _ (below_all : (n : ℕ) → n < sections.count → (sections.head n).address + (sections.head n).size ≤ 4026531840) where
    of_listed : (k n : ℕ) → n + k ≤ sections.count → (gaps : List Gap) → gaps_of g sections k n rows ≡ accepted gaps → Listed k n gaps
    unfolding gaps_of
    of_listed zero n h gaps e = subst (Listed zero n) (same_accepted e) (none-listed n)
    of_listed (suc k) n h gaps e =
        let p = bind_inv (section_gaps g sections n rows) _ gaps e in
        let r = bind_inv (gaps_of g sections k (suc n) rows) (λ more. accepted (p.0 ++ more)) gaps p.2 in
        let a = section_again n p.0 p.1 in
        let l = end_within g n (sections.head n) (sections.bytes n) a.end a.is in
        subst (Listed (suc k) n) (same_accepted r.2) (one_listed k n p.0 r.0 a (omega (arith, l, below_all n (omega arith))) (of_listed k (suc n) (omega arith) r.0 r.1))

    -- no section's search finds a gap
    of_nothing : (all : List Gap) → Rising key_of all → (k n : ℕ) → ((m : ℕ) → n ≤ m → m < n + k → Picks m all) → gaps_of g sections k n (with_gap_splits unit all rows) ≡ accepted []
    unfolding gaps_of
    of_nothing all r zero n q = refl
    of_nothing all r (suc k) n q =
        let p = q n (omega arith) (omega arith) in
        bind_goes (section_gaps g sections n (with_gap_splits unit all rows)) _ [] (section_nothing n p.0 all p.1 r p.2)
        ∙ bind_goes (gaps_of g sections k (suc n) (with_gap_splits unit all rows)) _ [] (of_nothing all r k (suc n) (λ m h l. q m (omega arith) (omega arith)))

    -- what was found, and what is found again
    pub record FoundAgain (gaps : List Gap) : Type 0 where
      pub nothing : found_gaps g sections (with_gap_splits unit gaps rows) ≡ accepted []
      pub apart : All (λ s. All (λ x. key_of x ≡ split_key s → ⊥) gaps) rows

    -- THEOREM: where the search finds gaps, it finds none among the splits with those of the gaps among them; and no gap starts where a split does
    pub found-again : (gaps : List Gap) → found_gaps g sections rows ≡ accepted gaps → FoundAgain gaps
    unfolding found_gaps into in_order
    found-again gaps e =
        let p = bind_inv (gaps_of g sections sections.count 0 rows) _ gaps e in
        let l = of_listed sections.count 0 (omega arith) p.0 p.1 in
        let same : p.0 ≡ gaps = sym (in_order_rising [] p.0 l.rising (all_any (λ x. none) p.0)) ∙ same_accepted p.2 in
        subst FoundAgain same (record {
          nothing = bind_goes (gaps_of g sections sections.count 0 (with_gap_splits unit p.0 rows)) _ [] (of_nothing p.0 l.rising sections.count 0 l.picks);
          apart = l.apart;
        })
