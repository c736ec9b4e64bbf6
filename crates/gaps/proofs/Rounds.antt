-- The gaps up to a next start, without a number of rounds: each gap ends above its start and not above the next start, so the rounds suffice
-- (`gaps_round`). Where gaps start: at the current address, or at a symbol. Assumes nothing.
use mathlib.Core.Path.{◌≡◌, refl, sym, ap, subst, ◌∙◌}
use mathlib.Core.List.{List, [], ◌∷◌}
use mathlib.Core.Bool.{Bool, true, false, cond, not, ◌&&◌}
use mathlib.Core.Logic.{◌⊎◌, inl, inr}
use Prim.Native.Nat.{ℕ, zero, suc, ◌-◌, ◌%◌, ◌≤◌, ◌<◌}
use native.Mathlib.Omega.{arith}
use lib.Dec.{eqb, leb, ltb}
use borrow.Author.Tests.{lt-ltb, le-ltb, leb-true, ltb-true, leb-false, eqb-true}
use Rattle.std.proofs.lemmas.Bool.{and_parts}
use Rattle.lists.specs.Rows.{some}
use Rattle.lists.specs.Outcome.{Outcome, accepted, refused, refuse, ◌>>◌, ◌>>=◌}
use Rattle.lists.specs.Sort.{All, none, each}
use Rattle.lists.specs.Members.{In}
use Rattle.lists.proofs.All.{all_keep, all_sort, all_both, all_map}
use Rattle.lists.proofs.Filter.{keep_passes}
use Rattle.lists.proofs.Outcomes.{same_accepted, then_inv, bind_inv}
use Rattle.lists.proofs.Rising.{numbers-below}
use Rattle.align.specs.Align.{good_align, align_up}
use Rattle.align.proofs.Theorems.{align_up-least}
use Rattle.obj.specs.declared.Symbol.{Symbol}
use Rattle.symbol_order.specs.Order.{key, has_section, in_section, symbols_of}
use Rattle.symbols.specs.Ranges.{stripped, symbols_between}
use Rattle.gap_columns.specs.Columns.{Gap, gap, key_of, placed, in_order}
use Rattle.gaps.specs.Gaps.{misses, end_from, gap_end, gaps_up_to, gaps_to, into}

-- symbol i is one of section n, in current..next
pub record Within (symbol : ℕ → Symbol) (count n current next i : ℕ) : Type 0 where
  pub there : i < count
  pub home : (symbol i).section ≡ n
  pub low : current ≤ (symbol i).address
  pub high : (symbol i).address < next

module _ (symbol : ℕ → Symbol) (count : ℕ) where
  symbols_within : (n current next : ℕ) → All (Within symbol count n current next) (symbols_between symbol count n current next)
  unfolding symbols_of
  symbols_within n current next =
      all_map (λ i p. within i p.0.0 p.0.1 p.1)
      (all_both
      (all_keep (λ i. leb current (symbol i).address && ltb (symbol i).address next)
      (all_sort (λ i. (symbol i).address) (all_both (all_keep (λ i. in_section n (symbol i)) (numbers-below count)) (keep_passes (λ i. in_section n (symbol i)) _))))
      (keep_passes (λ i. leb current (symbol i).address && ltb (symbol i).address next) _))
    where
      within : (i : ℕ) → i < count → in_section n (symbol i) ≡ true → (leb current (symbol i).address && ltb (symbol i).address next) ≡ true → Within symbol count n current next i
      within i h e q =
          let section = and_parts (has_section (symbol i)) (eqb (symbol i).section n) e in
          let range = and_parts (leb current (symbol i).address) (ltb (symbol i).address next) q in
          record { there = h; home = eqb-true _ _ section.1; low = leb-true _ _ range.0; high = ltb-true _ _ range.1 }

-- a gap ends at the next start, or at one of its symbols
abbrev EndIs : (symbol : ℕ → Symbol) → (ℕ → Type 0) → (next e : ℕ) → Type 0
EndIs symbol P next e = (e ≡ next) ⊎ ((i : ℕ) × P i × ((symbol i).address ≡ e))

end_is : {P : ℕ → Type 0} (symbol : ℕ → Symbol) (n current next e : ℕ) (names : List ℕ) {part : List ℕ} → All P part → end_from symbol n current next names part ≡ accepted e → EndIs symbol P next e
unfolding end_from
end_is symbol n current next e names none q = inl (sym (same_accepted q))
end_is {P} symbol n current next e names (each {x = i} {l = later} p all) q =
    go (stripped (symbol i)) (some (eqb (symbol i).name) names) (misses current (symbol i)) (end_is symbol n current next e names all) (end_is symbol n current next e ((symbol i).name ∷ names) all) q
  where
    go : (s t u : Bool) → (end_from symbol n current next names later ≡ accepted e → EndIs symbol P next e) → (end_from symbol n current next ((symbol i).name ∷ names) later ≡ accepted e → EndIs symbol P next e)
        → cond s (end_from symbol n current next names later)
        (cond t (refuse 41 n current (not (eqb ((symbol i).address % 4) 0)) >> accepted (symbol i).address)
        (cond u (accepted (symbol i).address) (end_from symbol n current next ((symbol i).name ∷ names) later))) ≡ accepted e
        → EndIs symbol P next e
    go true t u passed named r = passed r
    go false true u passed named r = inr (i, p, same_accepted (then_inv 41 n current (not (eqb ((symbol i).address % 4) 0)) (accepted (symbol i).address) e r).1)
    go false false true passed named r = inr (i, p, same_accepted r)
    go false false false passed named r = named r

module _ (symbol : ℕ → Symbol) (count : ℕ) where
  -- where a gap ends: above its start, at the next start or at a symbol of the section before it
  pub record Ended (n current next e : ℕ) : Type 0 where
    pub above : current < e
    pub within : e ≤ next
    pub place : (e ≡ next) ⊎ ((i : ℕ) × (i < count) × ((symbol i).section ≡ n) × ((symbol i).address ≡ e))

  pub gap_ended : (n current next e : ℕ) → gap_end symbol count n current next ≡ accepted e → Ended n current next e
  unfolding gap_end
  gap_ended n current next e q =
      let p = bind_inv (end_from symbol n current next [] (symbols_between symbol count n current next)) _ e q in
      let r = then_inv 42 n current (leb p.0 current) (accepted p.0) e p.2 in
      let same = same_accepted r.1 in
      let above : current < e = omega (arith, same, leb-false p.0 current r.0) in
      go above (end_is symbol n current next e [] (symbols_within symbol count n current next) (p.1 ∙ ap accepted same))
    where
      go : current < e → EndIs symbol (Within symbol count n current next) next e → Ended n current next e
      go h (inl z) = record { above = h; within = omega arith; place = inl z }
      go h (inr w) = record { above = h; within = let x = w.1.high in let y = w.2 in omega arith; place = inr (w.0, w.1.there, w.1.home, w.2) }

  -- ---- the rounds suffice
  module _ (n next alignment : ℕ) (good : good_align alignment ≡ true) where
    pub up : (current : ℕ) → current ≤ align_up current alignment
    up current = (align_up-least current alignment good).above

    -- no gap at or above the next start
    pub no_gap : (current m : ℕ) → next ≤ current → gaps_up_to symbol count m n current next alignment ≡ accepted []
    unfolding gaps_up_to
    no_gap current zero h = refl
    no_gap current (suc m) h = rw (le-ltb (align_up current alignment) next (omega (arith, up current)))

    abbrev after : (m current : ℕ) → ℕ → Outcome (List Gap)
    after m current end = gaps_up_to symbol count m n end next alignment >>= λ later. accepted (gap n current end ∷ later)

    enough : (current m k : ℕ) → next - current ≤ m → next - current ≤ k → gaps_up_to symbol count m n current next alignment ≡ gaps_up_to symbol count k n current next alignment
    unfolding gaps_up_to ◌>>=◌
    enough current zero k h l = sym (no_gap current k (omega arith))
    enough current (suc m) zero h l = no_gap current (suc m) (omega arith)
    enough current (suc m) (suc k) h l =
        ap (λ (o : Outcome (List Gap)). cond (ltb (align_up current alignment) next) o (accepted [])) (go (gap_end symbol count n current next) refl (λ e. enough e m k))
      where
        go : (o : Outcome ℕ) → gap_end symbol count n current next ≡ o → ((e : ℕ) → next - e ≤ m → next - e ≤ k → gaps_up_to symbol count m n e next alignment ≡ gaps_up_to symbol count k n e next alignment)
            → (o >>= after m current) ≡ (o >>= after k current)
        go (accepted e) q ih =
            let w = gap_ended n current next e q in
            ap (λ (o : Outcome (List Gap)). o >>= λ later. accepted (gap n current e ∷ later)) (ih e (omega (arith, w.above)) (omega (arith, w.above)))
        go (refused x y z) q ih = refl

    -- THEOREM: the gaps up to a next start are one gap, if the next start lies above the aligned current address, and the gaps from its end on
    pub gaps_round : (current : ℕ)
        → gaps_to symbol count n current next alignment
        ≡ cond (ltb (align_up current alignment) next)
        (gap_end symbol count n current next >>= λ end. gaps_to symbol count n end next alignment >>= λ later. accepted (gap n current end ∷ later))
        (accepted [])
    unfolding gaps_up_to ◌>>=◌
    gaps_round current = go (next - current) refl
      where
        rest : (m : ℕ) → next - current ≡ suc m → (o : Outcome ℕ) → gap_end symbol count n current next ≡ o → (o >>= after m current) ≡ (o >>= λ end. after (next - end) current end)
        rest m h (accepted e) q =
            let w = gap_ended n current next e q in
            ap (λ (o : Outcome (List Gap)). o >>= λ later. accepted (gap n current e ∷ later)) (enough e m (next - e) (omega (arith, w.above)) (omega arith))
        rest m h (refused x y z) q = refl

        go : (m : ℕ) → next - current ≡ m
            → gaps_up_to symbol count m n current next alignment ≡ cond (ltb (align_up current alignment) next) (gap_end symbol count n current next >>= λ end. after (next - end) current end) (accepted [])
        go zero h = rw (le-ltb (align_up current alignment) next (omega (arith, up current)))
        go (suc m) h = ap (λ (o : Outcome (List Gap)). cond (ltb (align_up current alignment) next) o (accepted [])) (rest m h (gap_end symbol count n current next) refl)

    -- ---- a round of the code: the gap enters among those found
    module _ (current : ℕ) (before : List Gap) where
      pub round_done : next ≤ align_up current alignment → into before (gaps_to symbol count n current next alignment) ≡ accepted before
      unfolding into in_order ◌>>=◌
      round_done h =
          let none_left : gaps_to symbol count n current next alignment ≡ accepted [] = gaps_round current ∙ rw (le-ltb (align_up current alignment) next h) in
          ap (into before) none_left

      module _ (h : align_up current alignment < next) where
        pub round_refused : (x y z : ℕ) → gap_end symbol count n current next ≡ refused x y z → into before (gaps_to symbol count n current next alignment) ≡ refused x y z
        unfolding into ◌>>=◌
        round_refused x y z q =
            let stopped : gaps_to symbol count n current next alignment ≡ refused x y z = gaps_round current ∙ rw (lt-ltb (align_up current alignment) next h, q) in
            ap (into before) stopped

        pub round_on : (e : ℕ) → gap_end symbol count n current next ≡ accepted e
            → into before (gaps_to symbol count n current next alignment) ≡ into (placed (gap n current e) before) (gaps_to symbol count n e next alignment)
        unfolding into in_order ◌>>=◌
        round_on e q =
            let one : gaps_to symbol count n current next alignment ≡ (gaps_to symbol count n e next alignment >>= λ later. accepted (gap n current e ∷ later)) =
            gaps_round current ∙ rw (lt-ltb (align_up current alignment) next h, q) in
            ap (into before) one ∙ go (gaps_to symbol count n e next alignment)
          where
            go : (o : Outcome (List Gap)) → into before (o >>= λ later. accepted (gap n current e ∷ later)) ≡ into (placed (gap n current e) before) o
            go (accepted l) = refl
            go (refused x y z) = refl

    -- ---- where these gaps start
    module _ (room : List ℕ) (symbols : (i : ℕ) → i < count → In (key (symbol i).section (symbol i).address) room) where
      -- the end of a gap is a start, unless no gap follows
      pub end_among : (current e : ℕ) → Ended n current next e → e < next → In (key n e) room
      end_among current e w h = go w.place
        where
          go : (e ≡ next) ⊎ ((i : ℕ) × (i < count) × ((symbol i).section ≡ n) × ((symbol i).address ≡ e)) → In (key n e) room
          go (inl z) = absurd (omega arith)
          go (inr p) = subst (λ (v : ℕ). In v room) (let s = p.2 in let a = p.3 in let z : key (symbol p.0).section (symbol p.0).address ≡ key n e = omega arith in z) (symbols p.0 p.1)

      among_up_to : (m current : ℕ) (gaps : List Gap) → (current < next → In (key n current) room) → gaps_up_to symbol count m n current next alignment ≡ accepted gaps → All (λ x. In (key_of x) room) gaps
      unfolding gaps_up_to
      among_up_to zero current gaps here q = subst (All (λ x. In (key_of x) room)) (same_accepted q) none
      among_up_to (suc m) current gaps here q = go (ltb (align_up current alignment) next) refl (λ e l. among_up_to m e l) q
        where
          go : (t : Bool) → ltb (align_up current alignment) next ≡ t
              → ((e : ℕ) (l : List Gap) → (e < next → In (key n e) room) → gaps_up_to symbol count m n e next alignment ≡ accepted l → All (λ x. In (key_of x) room) l)
              → cond t (gap_end symbol count n current next >>= after m current) (accepted []) ≡ accepted gaps → All (λ x. In (key_of x) room) gaps
          go false f later r = subst (All (λ x. In (key_of x) room)) (same_accepted r) none
          go true f later r =
              let p = bind_inv (gap_end symbol count n current next) (after m current) gaps r in
              let s = bind_inv (gaps_up_to symbol count m n p.0 next alignment) (λ later. accepted (gap n current p.0 ∷ later)) gaps p.2 in
              subst (All (λ x. In (key_of x) room)) (same_accepted s.2)
              (each {x = gap n current p.0} (here (omega (arith, up current, ltb-true (align_up current alignment) next f)))
              (later p.0 s.0 (end_among current p.0 (gap_ended n current next p.0 p.1)) s.1))

      pub among_to : (current : ℕ) (gaps : List Gap) → (current < next → In (key n current) room) → gaps_to symbol count n current next alignment ≡ accepted gaps → All (λ x. In (key_of x) room) gaps
      among_to current gaps here q = among_up_to (next - current) current gaps here q
