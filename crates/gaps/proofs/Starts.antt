-- Where the gaps of a section start: at its start, at a start or end of a split, or at a symbol; so the columns have room for all gaps. A split's turn
-- of the search. Assumes nothing.
use mathlib.Core.Path.{◌≡◌, refl, sym, ap, subst, ◌∙◌}
use mathlib.Core.List.{List, [], ◌∷◌, ◌++◌, map}
use mathlib.Core.Bool.{Bool, true, false, cond}
use mathlib.Core.Logic.{inl, inr}
use Prim.Native.Nat.{ℕ, zero, suc, ◌+◌, ◌-◌, ◌*◌, ◌≤◌, ◌<◌}
use native.Mathlib.Omega.{arith}
use lib.Dec.{eqb, leb, ltb}
use lib.ListN.{length, get_or, length-map, length-append}
use borrow.Author.Tests.{le-leb, lt-leb, lt-ltb, le-ltb, leb-false, ltb-true, eqb-true}
use Rattle.std.proofs.lemmas.Bool.{and_parts}
use Rattle.lists.specs.Rows.{tabulate, keep_if}
use Rattle.lists.specs.Outcome.{Outcome, accepted, refused, refuse, ◌>>◌, ◌>>=◌}
use Rattle.lists.specs.Sort.{All, none, each}
use Rattle.lists.specs.Members.{In}
use Rattle.lists.proofs.All.{all_keep, all_both, all_map, all_append}
use Rattle.lists.proofs.Filter.{keep_passes}
use Rattle.lists.proofs.Outcomes.{same_accepted, not_both, then_inv, bind_inv, fails, passes}
use Rattle.lists.proofs.Rows.{length-tabulate}
use Rattle.lists.proofs.Stands.{numbers_in}
use Rattle.lists.proofs.Members.{in_map}
use Rattle.align.specs.Align.{good_align, bad_align}
use Rattle.obj.specs.declared.Symbol.{Symbol}
use Rattle.obj.specs.declared.Split.{Split}
use Rattle.symbol_order.specs.Order.{key, numbers}
use Rattle.symbols.specs.Sound.{Sound}
use Rattle.sections.specs.Image.{Image}
use Rattle.sections.specs.Sections.{Sections}
use Rattle.sections.specs.Alignment.{Chosen, alignment_of}
use Rattle.sections.proofs.Good.{chosen_good}
use Rattle.splits.specs.Columns.{Columns, row_of, row_at}
use Rattle.splits.specs.Questions.{from_hit, next_start}
use Rattle.splits.proofs.Alignment.{alignment_good}
use Rattle.splits.proofs.Rows.{good_row}
use Rattle.gap_columns.specs.Columns.{Gap, key_of}
use Rattle.gaps.specs.Gaps.{end_after, gaps_to, gaps_before, gaps_from, below, into}
use Rattle.gaps.specs.Found.{starts, alignment_of_next}
use Rattle.gaps.proofs.Gathered.{into_more, into_refused}
use Rattle.gaps.proofs.Rounds.{no_gap, among_to}

-- ---- members of lists put together
in_left : (v : ℕ) (s t : List ℕ) → In v s → In v (s ++ t)
in_left v [] t i = absurd i
in_left v (x ∷ s) t (inl e) = inl e
in_left v (x ∷ s) t (inr i) = inr (in_left v s t i)

in_right : (v : ℕ) (s t : List ℕ) → In v t → In v (s ++ t)
in_right v [] t i = i
in_right v (x ∷ s) t i = inr (in_right v s t i)

all_in_map : {A : Type 0} (f : A → ℕ) (l : List A) → All (λ x. In (f x) (map f l)) l
all_in_map f [] = none
all_in_map f (x ∷ l) = each (inl refl) (all_map (λ y i. inr i) (all_in_map f l))

-- ---- the starts for which there is room
module _ (g : Image) (sections : Sections) (rows : List Split) where
  abbrev of_sections : List ℕ
  of_sections = map (λ n. key n (sections.head n).address) (numbers sections.count)

  abbrev of_starts : List ℕ
  of_starts = map (λ s. key s.section s.start) rows

  abbrev of_ends : List ℕ
  of_ends = map (λ s. key s.section s.end) rows

  abbrev of_symbols : List ℕ
  of_symbols = map (λ i. key (g.symbol i).section (g.symbol i).address) (numbers g.count)

  pub length-starts : length (starts g sections rows) ≡ sections.count + 2 * length rows + g.count
  unfolding starts
  length-starts =
      simp (length-append, length-map)
      (omega (arith, length-tabulate (λ (i : ℕ). i) 0 sections.count, length-tabulate (λ (i : ℕ). i) 0 g.count))

  pub section_starts : (n : ℕ) → n < sections.count → In (key n (sections.head n).address) (starts g sections rows)
  unfolding starts
  section_starts n h =
      in_left _ (of_sections ++ of_starts ++ of_ends) of_symbols
      (in_left _ (of_sections ++ of_starts) of_ends
      (in_left _ of_sections of_starts (in_map (λ k. key k (sections.head k).address) n (numbers sections.count) (numbers_in n 0 sections.count (omega arith) (omega arith)))))

  pub split_starts : All (λ s. In (key s.section s.start) (starts g sections rows) × In (key s.section s.end) (starts g sections rows)) rows
  unfolding starts
  split_starts =
      all_both
      (all_map (λ s i. in_left _ (of_sections ++ of_starts ++ of_ends) of_symbols (in_left _ (of_sections ++ of_starts) of_ends (in_right _ of_sections of_starts i))) (all_in_map (λ s. key s.section s.start) rows))
      (all_map (λ s i. in_left _ (of_sections ++ of_starts ++ of_ends) of_symbols (in_right _ (of_sections ++ of_starts) of_ends i)) (all_in_map (λ s. key s.section s.end) rows))

  pub symbol_starts : (i : ℕ) → i < g.count → In (key (g.symbol i).section (g.symbol i).address) (starts g sections rows)
  unfolding starts
  symbol_starts i h =
      in_right _ (of_sections ++ of_starts ++ of_ends) of_symbols
      (in_map (λ k. key (g.symbol k).section (g.symbol k).address) i (numbers g.count) (numbers_in i 0 g.count (omega arith) (omega arith)))

-- ---- the gaps before a split
module _ (symbol : ℕ → Symbol) (count n least current : ℕ) (s : Split) where
  pub before_backwards : {number section address : ℕ} → refused number section address ≡ alignment_of_next symbol count n least s → gaps_before symbol count n least current s ≡ refused number section address
  unfolding gaps_before ◌>>=◌
  before_backwards {number} {section} {address} e = go (alignment_of symbol count n least s.alignment s.start s.end) e
    where
      go : (o : Outcome Chosen) → refused number section address ≡ (o >>= λ chosen. accepted chosen.value)
          → (o >>= λ chosen. refuse 40 n current (ltb s.start current) >> gaps_to symbol count n current s.start chosen.value) ≡ refused number section address
      go (accepted chosen) q = absurd (not_both q)
      go (refused x y z) q = cc

  module _ (a : ℕ) (e : accepted a ≡ alignment_of_next symbol count n least s) where
    pub before_below : s.start < current → gaps_before symbol count n least current s ≡ refused 40 n current
    unfolding gaps_before ◌>>=◌
    before_below h = go (alignment_of symbol count n least s.alignment s.start s.end) e
      where
        go : (o : Outcome Chosen) → accepted a ≡ (o >>= λ chosen. accepted chosen.value)
            → (o >>= λ chosen. refuse 40 n current (ltb s.start current) >> gaps_to symbol count n current s.start chosen.value) ≡ refused 40 n current
        go (accepted chosen) q = fails 40 n current (ltb s.start current) (gaps_to symbol count n current s.start chosen.value) (lt-ltb s.start current h)
        go (refused x y z) q = absurd (not_both (sym q))

    pub before_on : current ≤ s.start → gaps_before symbol count n least current s ≡ gaps_to symbol count n current s.start a
    unfolding gaps_before ◌>>=◌
    before_on h = go (alignment_of symbol count n least s.alignment s.start s.end) e
      where
        go : (o : Outcome Chosen) → accepted a ≡ (o >>= λ chosen. accepted chosen.value)
            → (o >>= λ chosen. refuse 40 n current (ltb s.start current) >> gaps_to symbol count n current s.start chosen.value) ≡ gaps_to symbol count n current s.start a
        go (accepted chosen) q =
            passes 40 n current (ltb s.start current) (gaps_to symbol count n current s.start chosen.value) (le-ltb s.start current h)
            ∙ ap (gaps_to symbol count n current s.start) (sym (same_accepted q))
        go (refused x y z) q = absurd (not_both (sym q))

    -- the alignment is good, so that the current address can be aligned up
    pub next_good : Sound symbol count → good_align least ≡ true → bad_align s.alignment ≡ false → good_align a ≡ true
    next_good sound good own =
        let p = bind_inv (alignment_of symbol count n least s.alignment s.start s.end) (λ chosen. accepted chosen.value) a (sym e) in
        ap good_align (sym (same_accepted p.2)) ∙ chosen_good symbol count n least s.alignment s.start s.end sound good own p.0 p.1

-- a split of section n, below its splitting end, whose start and end are starts of gaps
pub record Known (n end : ℕ) (room : List ℕ) (s : Split) : Type 0 where
  pub low : s.start < end
  pub first : In (key n s.start) room
  pub last : In (key n s.end) room
  pub aligned : bad_align s.alignment ≡ false

module _ (symbol : ℕ → Symbol) (count n least : ℕ) (sound : Sound symbol count) (good : good_align least ≡ true) where
  module _ (room : List ℕ) (symbols : (i : ℕ) → i < count → In (key (symbol i).section (symbol i).address) room) where
    pub among_before : (current : ℕ) (s : Split) → bad_align s.alignment ≡ false → (current < s.start → In (key n current) room)
        → (gaps : List Gap) → gaps_before symbol count n least current s ≡ accepted gaps → All (λ x. In (key_of x) room) gaps
    unfolding gaps_before
    among_before current s own here gaps e =
        let p = bind_inv (alignment_of symbol count n least s.alignment s.start s.end) _ gaps e in
        let q = then_inv 40 n current (ltb s.start current) (gaps_to symbol count n current s.start p.0.value) gaps p.2 in
        among_to symbol count n s.start p.0.value (chosen_good symbol count n least s.alignment s.start s.end sound good own p.0 p.1) room symbols current gaps here q.1

    -- the address after a split is a start, unless no gap follows
    pub after_among : (end : ℕ) (s : Split) (later : List Split) → Known n end room s → All (Known n end room) later → end_after end s later < end → In (key n (end_after end s later)) room
    unfolding end_after next_start
    after_among end s later k all = go (eqb s.end 0) all
      where
        open_end : {l : List Split} → All (Known n end room) l → next_start end l < end → In (key n (next_start end l)) room
        open_end none h = absurd (omega arith)
        open_end (each p q) h = p.first

        go : (t : Bool) → All (Known n end room) later → cond t (next_start end later) s.end < end → In (key n (cond t (next_start end later) s.end)) room
        go true a h = open_end a h
        go false a h = k.last

    -- THEOREM: every gap of the section starts at its first address, at a start or end of a split, or at a symbol
    pub among_from : (end current : ℕ) {l : List Split} → (current < end → In (key n current) room) → All (Known n end room) l
        → (gaps : List Gap) → gaps_from symbol count n least end current l ≡ accepted gaps → All (λ x. In (key_of x) room) gaps
    unfolding gaps_from
    among_from end current here none gaps e = among_to symbol count n end least good room symbols current gaps here e
    among_from end current here (each {x = s} {l = later} k all) gaps e = go (leb end current) refl (λ c f. among_from end c f all) e
      where
        go : (t : Bool) → leb end current ≡ t
            → ((c : ℕ) → (c < end → In (key n c) room) → (more : List Gap) → gaps_from symbol count n least end c later ≡ accepted more → All (λ x. In (key_of x) room) more)
            → cond t (accepted []) (gaps_before symbol count n least current s >>= λ before. gaps_from symbol count n least end (end_after end s later) later >>= λ more. accepted (before ++ more)) ≡ accepted gaps
            → All (λ x. In (key_of x) room) gaps
        go true f ih q = subst (All (λ x. In (key_of x) room)) (same_accepted q) none
        go false f ih q =
            let p = bind_inv (gaps_before symbol count n least current s) _ gaps q in
            let r = bind_inv (gaps_from symbol count n least end (end_after end s later) later) (λ more. accepted (p.0 ++ more)) gaps p.2 in
            subst (All (λ x. In (key_of x) room)) (same_accepted r.2)
            (all_append
            (among_before current s k.aligned (λ h. here (leb-false end current f)) p.0 p.1)
            (ih (end_after end s later) (after_among end s later k all) r.0 r.1))

  -- ---- a split's turn, over the splits that are left
  module _ (end current : ℕ) where
    -- the splitting end is reached: nothing more is asked
    pub from_done : (l : List Split) → end ≤ current → gaps_from symbol count n least end current l ≡ accepted []
    unfolding gaps_from
    from_done [] h = no_gap symbol count n end least good current (end - current) h
    from_done (s ∷ later) h = rw (le-leb end current h)

    module _ (before : List Gap) (s : Split) (later : List Split) (h : current < end) where
      pub from_on : (l : List Gap) → into before (gaps_before symbol count n least current s) ≡ accepted l
          → into before (gaps_from symbol count n least end current (s ∷ later)) ≡ into l (gaps_from symbol count n least end (end_after end s later) later)
      unfolding gaps_from
      from_on l e =
          rw (lt-leb end current h)
          (into_more before (gaps_before symbol count n least current s) (gaps_from symbol count n least end (end_after end s later) later) l e)

      pub from_refused : (x y z : ℕ) → into before (gaps_before symbol count n least current s) ≡ refused x y z
          → into before (gaps_from symbol count n least end current (s ∷ later)) ≡ refused x y z
      unfolding gaps_from
      from_refused x y z e =
          rw (lt-leb end current h)
          (into_refused before (gaps_before symbol count n least current s) (gaps_from symbol count n least end (end_after end s later) later) x y z e)

-- no split is left
pub from_none : (symbol : ℕ → Symbol) (count n least end current : ℕ) → gaps_from symbol count n least end current [] ≡ gaps_to symbol count n current end least
unfolding gaps_from
from_none symbol count n least end current = refl

-- ---- splits in columns

-- the address after a split, by the place of the next one
pub after_hit : (p : Split → Bool) (c : Columns) (n i end : ℕ) (s : Split) → end_after end s (from_hit p c n i) ≡ cond (eqb s.end 0) (cond (ltb i n) (get_or c.starts i 0) end) s.end
unfolding end_after next_start row_of
after_hit p c n i end s = ap (λ (m : ℕ). cond (eqb s.end 0) m s.end) (go (ltb i n))
  where
    go : (t : Bool) → next_start end (cond t (row_at c i ∷ keep_if p (tabulate (row_at c) (i + 1) (n - (i + 1)))) []) ≡ cond t (get_or c.starts i 0) end
    go true = refl
    go false = refl

-- ---- the rows of a section are known
module _ (n end : ℕ) (room : List ℕ) (c : Columns) where
  -- a row's alignment is good, whatever the columns hold
  good_rows : (i m : ℕ) → All (λ s. bad_align s.alignment ≡ false) (tabulate (row_at c) i m)
  unfolding tabulate
  good_rows i zero = none
  good_rows i (suc m) = each (alignment_good _ (good_row _ _ _ _)) (good_rows (suc i) m)

  pub known_rows : (m : ℕ) → All (λ s. In (key s.section s.start) room × In (key s.section s.end) room) (tabulate (row_at c) 0 m)
      → All (Known n end room) (keep_if (below n end) (tabulate (row_at c) 0 m))
  known_rows m splits = all_map known (all_both (all_keep (below n end) (all_both splits (good_rows 0 m))) (keep_passes (below n end) (tabulate (row_at c) 0 m)))
    where
      known : (s : Split) → ((In (key s.section s.start) room × In (key s.section s.end) room) × (bad_align s.alignment ≡ false)) × (below n end s ≡ true) → Known n end room s
      known s p =
          let q = and_parts (eqb s.section n) (ltb s.start end) p.1 in
          let home = eqb-true s.section n q.0 in
          record {
            low = ltb-true s.start end q.1;
            first = subst (λ (k : ℕ). In (key k s.start) room) home p.0.0.0;
            last = subst (λ (k : ℕ). In (key k s.end) room) home p.0.0.1;
            aligned = p.0.1;
          }
