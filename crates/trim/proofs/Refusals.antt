-- What refuses the trim of a table that passed the check: no range of it is asked backwards, and 54 never comes, so only a section's splitting end does.
-- Assumes nothing.
use mathlib.Core.Path.{◌≡◌, refl, sym, ap, ◌∙◌}
use mathlib.Core.List.{List, [], ◌∷◌}
use mathlib.Core.Bool.{Bool, true, false, cond, not, ◌&&◌}
use mathlib.Core.Logic.{◌⊎◌, inl, inr}
use Prim.Native.Nat.{ℕ, zero, suc, ◌+◌, ◌≤◌, ◌<◌}
use native.Mathlib.Omega.{arith}
use borrow.Author.Tests.{eqb-true, le-ltb}
use lib.Dec.{eqb, ltb}
use lib.ListN.{length, get_or}
use Rattle.lists.specs.Outcome.{Outcome, accepted, refused, ◌>>◌, ◌>>=◌}
use Rattle.lists.proofs.Outcomes.{not_both, passes}
use Rattle.lists.proofs.Binds.{bind_goes, after_goes}
use Rattle.align.specs.Align.{bad_align, align_up}
use Rattle.obj.specs.declared.Section.{Section}
use Rattle.obj.specs.declared.Symbol.{Symbol}
use Rattle.obj.specs.declared.Split.{Split}
use Rattle.obj.specs.Nothing.{no_split}
use Rattle.symbols.specs.Ranges.{has_symbols, backwards, last_in, highest_in}
use Rattle.symbols.specs.Sound.{Sound}
use Rattle.std.specs.Prelude.{Option}
use Rattle.sections.specs.Image.{Image}
use Rattle.sections.specs.Sections.{Sections}
use Rattle.sections.specs.Alignment.{Chosen, given, default_alignment, larger, alignment_of, alignment_from}
use Rattle.validate.specs.Check.{validate_from, validate}
use Rattle.validate.proofs.Laws.{Passed, one_passed, tail_passed}
use Rattle.trim.specs.Trim.{end_of, ask_next, aligned_end, fall_of, falls_of, carry_from, cut_last, cut_section, cut_from, trimmed}
use Rattle.trim.proofs.Checked.{fallen, splitting, carried_own}

-- ---- ranges that are not asked backwards
module _ (symbol : ℕ → Symbol) (count n start end : ℕ) (h : start ≤ end) where
  forwards : backwards symbol count n start end ≡ false
  forwards = ap (λ (t : Bool). t && has_symbols symbol count n) (le-ltb end start h)

  last_asked : (found : Option ℕ) × (last_in symbol count n start end ≡ accepted found)
  unfolding last_in
  last_asked = (_, passes 11 n start (backwards symbol count n start end) _ forwards)

  highest_asked : (highest : ℕ) × (highest_in symbol count n start end ≡ accepted highest)
  unfolding highest_in
  highest_asked = (_, passes 11 n start (backwards symbol count n start end) _ forwards)

  alignment_asked : (least own : ℕ) → (c : Chosen) × (alignment_of symbol count n least own start end ≡ accepted c)
  unfolding alignment_of
  alignment_asked least own = go (eqb own 0) highest_asked
    where
      go : (t : Bool) → (highest : ℕ) × (highest_in symbol count n start end ≡ accepted highest)
          → (c : Chosen)
          × (cond (not t) (accepted (record { value = own; reason = given })) (highest_in symbol count n start end >>= λ highest. accepted (larger least highest)) ≡ accepted c)
      go true p = (larger least p.0, bind_goes (highest_in symbol count n start end) (λ highest. accepted (larger least highest)) p.0 p.1)
      go false p = (record { value = own; reason = given }, refl)

-- ---- falls of a table that passed
module _ (g : Image) (head : ℕ → Section) where
  from_asked : (start : ℕ) (s : Split) → start ≤ s.end → (c : Chosen) × (alignment_from g head start s ≡ accepted c)
  unfolding alignment_from
  from_asked start s h =
      alignment_asked g.symbol g.count s.section start s.end h
      (default_alignment (head s.section) (g.name (head s.section).name)) s.alignment

  end_asked : (s : Split) → s.start ≤ s.end → (end : ℕ) × (aligned_end g head s ≡ accepted end)
  unfolding aligned_end
  end_asked s h =
      let a = last_asked g.symbol g.count s.section s.start s.end h in
      let b = from_asked s.start s h in (
        align_up (end_of g.symbol s.end a.0) b.0.value,
        bind_goes (last_in g.symbol g.count s.section s.start s.end) _ a.0 a.1
            ∙ bind_goes (alignment_from g head s.start s) _ b.0 b.1,
      )

  -- the next split of the section ends at or above this one's start
  next_asked : (s : Split) (l : List Split) → s.start ≤ s.end → validate_from g.symbol g.count s.section s.end l ≡ accepted tt
      → ask_next g head s l ≡ accepted tt
  unfolding ask_next
  next_asked s [] h v = refl
  next_asked s (y ∷ l) h v = go (eqb y.section s.section) refl
    where
      passed : Passed g.symbol g.count s.section s.end y
      passed = one_passed g.symbol g.count s.section s.end y (tail_passed g.symbol g.count s.section s.end y l v).0

      go : (t : Bool) → eqb y.section s.section ≡ t
          → ◌≡◌ {A = Outcome (Unit {0})} (cond t (alignment_from g head s.start y >>= λ unused. accepted tt) (accepted tt)) (accepted tt)
      go true e =
          let apart = passed.apart (eqb-true y.section s.section e) in
          let b = from_asked s.start y (omega (arith, h, apart, passed.rises)) in
          bind_goes (alignment_from g head s.start y) (λ unused. accepted tt) b.0 b.1
      go false e = refl

  fall_asked : (s : Split) (l : List Split) → s.start ≤ s.end → validate_from g.symbol g.count s.section s.end l ≡ accepted tt
      → (fall : ℕ) × (fall_of g head s l ≡ accepted fall)
  unfolding fall_of
  fall_asked s l h v = go (end_asked s h)
    where
      by : (end : ℕ) (t : Bool) → (fall : ℕ) × (cond t (ask_next g head s l >> accepted end) (accepted 0) ≡ accepted fall)
      by end true = (end, after_goes (ask_next g head s l) (accepted end) (next_asked s l h v))
      by end false = (0, refl)

      go : (end : ℕ) × (aligned_end g head s ≡ accepted end)
          → (fall : ℕ) × ((aligned_end g head s >>= λ end. cond (ltb end s.end) (ask_next g head s l >> accepted end) (accepted 0)) ≡ accepted fall)
      go p = let q = by p.0 (ltb p.0 s.end) in (q.0, bind_goes (aligned_end g head s) _ p.0 p.1 ∙ q.1)

  falls_asked : (l : List Split) (before last : ℕ) → validate_from g.symbol g.count before last l ≡ accepted tt → (falls : List ℕ) × (falls_of g head l ≡ accepted falls)
  unfolding falls_of
  falls_asked [] before last v = ([], refl)
  falls_asked (s ∷ l) before last v =
      let tail = tail_passed g.symbol g.count before last s l v in
      let first = fall_asked s l (one_passed g.symbol g.count before last s tail.0).rises tail.1 in
      let rest = falls_asked l s.section s.end tail.1 in
      (first.0 ∷ rest.0, bind_goes (fall_of g head s l) _ first.0 first.1 ∙ bind_goes (falls_of g head l) _ rest.0 rest.1)

-- ---- the cuts

bind_refused : {A B : Type 0} (m : Outcome A) (f : A → Outcome B) {number section address : ℕ} → (m >>= f) ≡ refused number section address
    → (m ≡ refused number section address) ⊎ ((a : A) × (m ≡ accepted a) × (f a ≡ refused number section address))
unfolding ◌>>=◌
bind_refused (accepted a) f e = inr (a, refl, e)
bind_refused {A} (refused x y z) f {number} {section} {address} e = inl (let q : ◌≡◌ {A = Outcome A} (refused x y z) (refused number section address) = cc in q)

module _ (g : Image) (sections : Sections) where
  section_refused : (n : ℕ) (l : List Split) {number section address : ℕ} → cut_section g sections n l ≡ refused number section address
      → splitting g sections n ≡ refused number section address
  unfolding cut_section
  section_refused n l {number} {section} {address} e = go (bind_refused (splitting g sections n) _ e)
    where
      go : (splitting g sections n ≡ refused number section address)
          ⊎ ((end : ℕ) × (splitting g sections n ≡ accepted end)
          × (◌≡◌ {A = Outcome (List Split)} (accepted (cond (eqb ((sections.head n).address + (sections.head n).size) end) l (cut_last n end l))) (refused number section address)))
          → splitting g sections n ≡ refused number section address
      go (inl q) = q
      go (inr q) = absurd (not_both (sym q.2))

  from_refused : (k n : ℕ) (l : List Split) {number section address : ℕ} → cut_from g sections k n l ≡ refused number section address
      → (m : ℕ) × (m < n + k) × (splitting g sections m ≡ refused number section address)
  unfolding cut_from
  from_refused zero n l e = absurd (not_both (sym e))
  from_refused (suc k) n l {number} {section} {address} e = go (bind_refused (cut_section g sections n l) _ e) (λ m. from_refused k (suc n) m)
    where
      go : (cut_section g sections n l ≡ refused number section address)
          ⊎ ((m : List Split) × (cut_section g sections n l ≡ accepted m) × (cut_from g sections k (suc n) m ≡ refused number section address))
          → ((c : List Split) → cut_from g sections k (suc n) c ≡ refused number section address → (m : ℕ) × (m < suc n + k) × (splitting g sections m ≡ refused number section address))
          → (m : ℕ) × (m < n + suc k) × (splitting g sections m ≡ refused number section address)
      go (inl q) ih = (n, omega arith, section_refused n l q)
      go (inr q) ih = let p = ih q.0 q.2 in (p.0, omega (arith, p.1), p.2)

  module _ (sound : Sound g.symbol g.count) (rows : List Split) (passed : validate g.symbol g.count rows ≡ accepted tt)
      (aligned : (k : ℕ) → k < length rows → bad_align (get_or rows k no_split).alignment ≡ false) where
    -- THEOREM: the trim of a table that passed the check is its cuts: neither 11 nor 54 comes
    pub trim_cuts : (falls : List ℕ) × (trimmed g sections rows ≡ cut_from g sections sections.count 0 (fallen falls rows))
    unfolding trimmed validate
    trim_cuts =
        let p = falls_asked g sections.head rows 0 0 passed in (
          p.0,
          bind_goes (falls_of g sections.head rows) _ p.0 p.1
              ∙ bind_goes (carry_from 0 p.0 rows) _ (fallen p.0 rows) (carried_own g sections sound rows passed aligned p.0 p.1),
        )

    -- THEOREM: it is refused only where a section's splitting end is
    pub trim_refused : {number section address : ℕ} → trimmed g sections rows ≡ refused number section address
        → (n : ℕ) × (n < sections.count) × (splitting g sections n ≡ refused number section address)
    trim_refused e =
        let p = from_refused sections.count 0 (fallen trim_cuts.0 rows) (sym trim_cuts.1 ∙ e) in
        (p.0, omega (arith, p.1), p.2)
