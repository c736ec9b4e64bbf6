-- What a table that passed the check is, from its chain of rules: no end is open or below its start, no start and no end lies inside the last symbol
-- below it, and two splits of one section do not overlap. Assumes nothing.
use mathlib.Core.Path.{◌≡◌, sym, subst, ◌∙◌}
use mathlib.Core.List.{List, [], ◌∷◌}
use mathlib.Core.Bool.{◌&&◌, ◌||◌}
use mathlib.Core.Logic.{◌⊎◌, inl, inr}
use Prim.Native.Nat.{ℕ, zero, suc, ◌≤◌, ◌<◌}
use native.Mathlib.Nat.{le_of_suc-le-suc, not-suc-le-zero}
use native.Mathlib.Omega.{arith}
use borrow.Author.Tests.{eq-eqb, eqb-false, ltb-false}
use lib.Dec.{eqb, ltb}
use lib.ListN.{length, get_or}
use Rattle.std.proofs.lemmas.Bool.{or_parts, cases_lt}
use Rattle.lists.specs.Outcome.{accepted}
use Rattle.lists.proofs.Outcomes.{then_inv, then_both}
use Rattle.lists.proofs.Tests.{and_false}
use Rattle.obj.specs.declared.Symbol.{Symbol}
use Rattle.obj.specs.declared.Split.{Split}
use Rattle.splits.specs.Rising.{Rising}
use Rattle.splits.proofs.Rising.{rising_at}
use Rattle.validate.specs.Check.{end_below, validate_one, validate_from, validate}

module _ (symbol : ℕ → Symbol) (count : ℕ) where
  -- a split that passed, after a split of section `before` that ends at `last`
  pub record Passed (before last : ℕ) (s : Split) : Type 0 where
    pub apart : s.section ≡ before → last ≤ s.start
    pub closed : 0 < s.end
    pub rises : s.start ≤ s.end
    pub starts : end_below symbol count s.section s.start ≤ s.start
    pub ends : end_below symbol count s.section s.end ≤ s.end

  pub one_passed : (before last : ℕ) (s : Split) → validate_one symbol count before last s ≡ accepted tt → Passed before last s
  unfolding validate_one
  one_passed before last s e =
      let a = then_inv 50 s.section s.start (eqb s.section before && ltb s.start last) _ _ e in
      let b = then_inv 51 s.section s.start (eqb s.end 0 || ltb s.end s.start) _ _ a.1 in
      let c = then_inv 52 s.section s.start (ltb s.start (end_below symbol count s.section s.start)) _ _ b.1 in
      let d = then_inv 53 s.section s.start (ltb s.end (end_below symbol count s.section s.end)) _ _ c.1 in
      let q = or_parts (eqb s.end 0) (ltb s.end s.start) b.0 in
      record {
        apart = λ h. ltb-false s.start last (and_false (eqb s.section before) (ltb s.start last) a.0 (eq-eqb s.section before h));
        closed = let z = eqb-false s.end 0 q.0 in omega arith;
        rises = ltb-false s.end s.start q.1;
        starts = ltb-false _ _ c.0;
        ends = ltb-false _ _ d.0;
      }

  -- the rows after the first
  pub tail_passed : (before last : ℕ) (s : Split) (l : List Split) → validate_from symbol count before last (s ∷ l) ≡ accepted tt
      → (validate_one symbol count before last s ≡ accepted tt) × (validate_from symbol count s.section s.end l ≡ accepted tt)
  unfolding validate_from
  tail_passed before last s l e = then_both _ _ _ e

  -- ---- by places

  -- some split stands before row k, or none
  at_passed : (before last : ℕ) (l : List Split) (k : ℕ) (d : Split) → validate_from symbol count before last l ≡ accepted tt → k < length l
      → (m : ℕ) × (e : ℕ) × Passed m e (get_or l k d)
  at_passed before last [] k d e h = absurd (not-suc-le-zero h)
  at_passed before last (s ∷ l) zero d e h = (before, last, one_passed before last s (tail_passed before last s l e).0)
  at_passed before last (s ∷ l) (suc k) d e h = at_passed s.section s.end l k d (tail_passed before last s l e).1 (le_of_suc-le-suc h)

  next_passed : (before last : ℕ) (l : List Split) (k : ℕ) (d : Split) → validate_from symbol count before last l ≡ accepted tt → suc k < length l
      → Passed (get_or l k d).section (get_or l k d).end (get_or l (suc k) d)
  next_passed before last [] k d e h = absurd (not-suc-le-zero h)
  next_passed before last (s ∷ []) k d e h = absurd (not-suc-le-zero (le_of_suc-le-suc h))
  next_passed before last (s ∷ t ∷ l) zero d e h = one_passed s.section s.end t (tail_passed s.section s.end t l (tail_passed before last s (t ∷ l) e).1).0
  next_passed before last (s ∷ t ∷ l) (suc k) d e h = next_passed s.section s.end (t ∷ l) k d (tail_passed before last s (t ∷ l) e).1 (le_of_suc-le-suc h)

  module _ (l : List Split) (d : Split) (passed : validate symbol count l ≡ accepted tt) where
    chain : validate_from symbol count 0 0 l ≡ accepted tt
    unfolding validate
    chain = passed

    -- no end is open, and none lies below its start
    pub check_closed : (k : ℕ) → k < length l → 0 < (get_or l k d).end
    check_closed k h = (at_passed 0 0 l k d chain h).2.closed

    pub check_rises : (k : ℕ) → k < length l → (get_or l k d).start ≤ (get_or l k d).end
    check_rises k h = (at_passed 0 0 l k d chain h).2.rises

    -- no start and no end lies inside the last symbol below it
    pub check_starts : (k : ℕ) → k < length l → end_below symbol count (get_or l k d).section (get_or l k d).start ≤ (get_or l k d).start
    check_starts k h = (at_passed 0 0 l k d chain h).2.starts

    pub check_ends : (k : ℕ) → k < length l → end_below symbol count (get_or l k d).section (get_or l k d).end ≤ (get_or l k d).end
    check_ends k h = (at_passed 0 0 l k d chain h).2.ends

    -- neighbours of one section do not overlap
    pub check_next : (k : ℕ) → suc k < length l → (get_or l (suc k) d).section ≡ (get_or l k d).section → (get_or l k d).end ≤ (get_or l (suc k) d).start
    check_next k h e = (next_passed 0 0 l k d chain h).apart e

    -- THEOREM: of two splits of one section the earlier ends where the later starts, or before
    pub check_apart : Rising l → (i j : ℕ) → i < j → j < length l → (get_or l i d).section ≡ (get_or l j d).section → (get_or l i d).end ≤ (get_or l j d).start
    check_apart r i j h q e = go (cases_lt (suc i) j)
      where
        go : (suc i < j) ⊎ (j ≤ suc i) → (get_or l i d).end ≤ (get_or l j d).start
        go (inl far) =
            let low = rising_at l i (suc i) d r (omega arith) (omega arith) in
            let high = rising_at l (suc i) j d r far q in
            let same : (get_or l (suc i) d).section ≡ (get_or l i d).section = omega (arith, low.sections, high.sections) in
            omega (arith, check_next i (omega arith) same, high.starts (same ∙ e))
        go (inr near) =
            subst (λ (k : ℕ). k < length l → (get_or l k d).section ≡ (get_or l i d).section → (get_or l i d).end ≤ (get_or l k d).start)
            (let z : suc i ≡ j = omega arith in z) (check_next i) q (sym e)
