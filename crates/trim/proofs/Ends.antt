-- What a trimmed table keeps, whatever table it was: it is the same table but for its ends, so that its order stays; and its ends stay within whatever
-- bounded the ends of each section before. Assumes nothing.
use mathlib.Core.Path.{◌≡◌, refl, sym, ap, ap₂, subst, ◌∙◌}
use mathlib.Core.List.{List, [], ◌∷◌, map}
use mathlib.Core.Bool.{Bool, true, false, cond, not, ◌&&◌, false≢true}
use mathlib.Core.Logic.{◌⊎◌, inl, inr}
use Prim.Native.Nat.{ℕ, zero, suc, ◌+◌, ◌-◌, ◌≤◌, ◌<◌, suc-le-suc}
use native.Mathlib.Nat.{le_of_suc-le-suc, not-suc-le-zero, add-suc, suc-add, add-zero}
use native.Mathlib.Omega.{arith}
use borrow.Author.Tests.{eq-eqb, eqb-true}
use lib.Dec.{eqb, ltb}
use lib.ListN.{length, get_or, set, drop, length-map, length-drop}
use lib.Seq.{get_or-drop}
use Rattle.std.proofs.lemmas.Bool.{and_parts, cases_lt}
use Rattle.lists.specs.Outcome.{accepted}
use Rattle.lists.specs.Rows.{some}
use Rattle.lists.proofs.Outcomes.{same_accepted, then_inv, bind_inv}
use Rattle.obj.specs.declared.Split.{Split}
use Rattle.obj.specs.Nothing.{no_split}
use Rattle.obj.specs.Order.{NotBelow}
use Rattle.sections.specs.Image.{Image}
use Rattle.sections.specs.Sections.{Sections}
use Rattle.sections.specs.Ends.{splitting_end}
use Rattle.splits.specs.Updates.{with_end}
use Rattle.splits.specs.Rising.{Rising}
use Rattle.splits.proofs.Rising.{SamePlace, below_same, above_same, rising_at, rising_of}
use Rattle.trim.specs.Trim.{falls_of, alongside, last_at, carry_one, carry_from, cut_to, cut_last, cut_section, cut_from, trimmed}

-- ---- the same but for the ends

-- a table without its ends
abbrev pub endless : List Split → List Split
endless l = map (with_end 0) l

endless_set : (l : List Split) (k end : ℕ) → endless (set l k (with_end end (get_or l k no_split))) ≡ endless l
endless_set [] k end = refl
endless_set (s ∷ l) zero end = refl
endless_set (s ∷ l) (suc k) end = ap (λ (t : List Split). with_end 0 s ∷ t) (endless_set l k end)

pub endless_one : (k fall : ℕ) (l m : List Split) → carry_one k fall l ≡ accepted m → endless m ≡ endless l
unfolding carry_one
endless_one k zero l m e = ap endless (sym (same_accepted e))
endless_one k (suc end) l m e = ap endless (sym (same_accepted (then_inv 54 _ _ _ _ _ e).1)) ∙ endless_set l (last_at l k) (suc end)

pub endless_carry : (k : ℕ) (falls : List ℕ) (l m : List Split) → carry_from k falls l ≡ accepted m → endless m ≡ endless l
unfolding carry_from
endless_carry k [] l m e = ap endless (sym (same_accepted e))
endless_carry k (fall ∷ falls) l m e =
    let q = bind_inv _ _ _ e in
    endless_carry (suc k) falls q.0 m q.2 ∙ endless_one k fall l q.0 q.1

endless_cut_to : (end : ℕ) (s : Split) → with_end 0 (cut_to end s) ≡ with_end 0 s
unfolding cut_to
endless_cut_to end s = go (ltb end s.end)
  where
    go : (t : Bool) → with_end 0 (cond t (with_end end s) s) ≡ with_end 0 s
    go true = refl
    go false = refl

endless_cut : (n end : ℕ) (l : List Split) → endless (cut_last n end l) ≡ endless l
unfolding cut_last
endless_cut n end [] = refl
endless_cut n end (s ∷ l) = go (eqb s.section n && not (some (λ y. eqb y.section n) l)) (endless_cut n end l)
  where
    go : (t : Bool) → endless (cut_last n end l) ≡ endless l → endless (cond t (cut_to end s ∷ l) (s ∷ cut_last n end l)) ≡ endless (s ∷ l)
    go true q = ap (λ (y : Split). y ∷ endless l) (endless_cut_to end s)
    go false q = ap (λ (t : List Split). with_end 0 s ∷ t) q

module _ (g : Image) (sections : Sections) where
  -- a section's turn leaves the rows, or cuts its last one
  pub section_turn : (n : ℕ) (l m : List Split) → cut_section g sections n l ≡ accepted m
      → (m ≡ l) ⊎ ((end : ℕ) × (splitting_end g n (sections.head n) (sections.bytes n) ≡ accepted end) × (m ≡ cut_last n end l))
  unfolding cut_section
  section_turn n l m e =
      let q = bind_inv _ _ _ e in
      go q.0 q.1 (eqb ((sections.head n).address + (sections.head n).size) q.0) (same_accepted q.2)
    where
      go : (end : ℕ) → splitting_end g n (sections.head n) (sections.bytes n) ≡ accepted end → (t : Bool) → cond t l (cut_last n end l) ≡ m
          → (m ≡ l) ⊎ ((end : ℕ) × (splitting_end g n (sections.head n) (sections.bytes n) ≡ accepted end) × (m ≡ cut_last n end l))
      go end is true p = inl (sym p)
      go end is false p = inr (end, is, sym p)

  pub endless_section : (n : ℕ) (l m : List Split) → cut_section g sections n l ≡ accepted m → endless m ≡ endless l
  endless_section n l m e = go (section_turn n l m e)
    where
      go : (m ≡ l) ⊎ ((end : ℕ) × (splitting_end g n (sections.head n) (sections.bytes n) ≡ accepted end) × (m ≡ cut_last n end l)) → endless m ≡ endless l
      go (inl p) = ap endless p
      go (inr p) = ap endless p.2 ∙ endless_cut n p.0 l

  endless_from : (k n : ℕ) (l m : List Split) → cut_from g sections k n l ≡ accepted m → endless m ≡ endless l
  unfolding cut_from
  endless_from zero n l m e = ap endless (sym (same_accepted e))
  endless_from (suc k) n l m e =
      let q = bind_inv _ _ _ e in
      endless_from k (suc n) q.0 m q.2 ∙ endless_section n l q.0 q.1

  -- the three passes of an accepted trim
  pub record Passes (rows out : List Split) : Type 0 where
    pub falls : List ℕ
    pub fallen : List Split
    pub found : falls_of g sections.head rows ≡ accepted falls
    pub carried : carry_from 0 falls rows ≡ accepted fallen
    pub cut : cut_from g sections sections.count 0 fallen ≡ accepted out

  pub trim_passes : (rows out : List Split) → trimmed g sections rows ≡ accepted out → Passes rows out
  unfolding trimmed
  trim_passes rows out e =
      let a = bind_inv _ _ _ e in
      let b = bind_inv _ _ _ a.2 in
      record { falls = a.0; fallen = b.0; found = a.1; carried = b.1; cut = b.2 }

  -- THEOREM: a trimmed table is the table but for its ends
  pub trim_keeps : (rows out : List Split) → trimmed g sections rows ≡ accepted out → endless out ≡ endless rows
  trim_keeps rows out e =
      let p = trim_passes rows out e in
      endless_from sections.count 0 p.fallen out p.cut ∙ endless_carry 0 p.falls rows p.fallen p.carried

-- ---- two tables that are the same but for the ends
module _ (l m : List Split) (same : endless m ≡ endless l) where
  pub same_length : length m ≡ length l
  same_length = sym (length-map m (with_end 0)) ∙ ap (λ (t : List Split). length t) same ∙ length-map l (with_end 0)

  at : (t : List Split) (k : ℕ) → get_or (endless t) k no_split ≡ with_end 0 (get_or t k no_split)
  at [] k = refl
  at (s ∷ t) zero = refl
  at (s ∷ t) (suc k) = at t k

  -- each row has its section, start, unit, alignment, flags and rename
  pub same_row : (k : ℕ) → get_or m k no_split ≡ with_end (get_or m k no_split).end (get_or l k no_split)
  same_row k =
      ap (with_end (get_or m k no_split).end) (sym (at m k) ∙ ap (λ (t : List Split). get_or t k no_split) same ∙ at l k)

  pub same_section : (k : ℕ) → (get_or m k no_split).section ≡ (get_or l k no_split).section
  same_section k = ap (λ (s : Split). s.section) (same_row k)

  pub same_start : (k : ℕ) → (get_or m k no_split).start ≡ (get_or l k no_split).start
  same_start k = ap (λ (s : Split). s.start) (same_row k)

  -- the order stays
  pub same_rising : Rising l → Rising m
  same_rising r =
      rising_of m no_split
      (λ i j h q. below_same (get_or m i no_split) (get_or l j no_split) (get_or m j no_split) (record { section = same_section j; start = same_start j })
      (above_same (get_or l i no_split) (get_or m i no_split) (get_or l j no_split) (record { section = same_section i; start = same_start i })
      (rising_at l i j no_split r h (omega (arith, same_length)))))

-- ---- the last row at a start

-- the rows that are counted start where s does, the next one does not
along_length : (s : Split) (l : List Split) → alongside s l ≤ length l
unfolding alongside
along_length s [] = omega arith
along_length s (y ∷ l) = go (eqb y.section s.section && eqb y.start s.start) (along_length s l)
  where
    go : (t : Bool) → alongside s l ≤ length l → cond t (suc (alongside s l)) 0 ≤ suc (length l)
    go true h = suc-le-suc h
    go false h = omega arith

along_same : (s : Split) (l : List Split) (i : ℕ) → i < alongside s l → SamePlace s (get_or l i no_split)
unfolding alongside
along_same s [] i h = absurd (not-suc-le-zero h)
along_same s (y ∷ l) i h = go (eqb y.section s.section && eqb y.start s.start) refl i h (along_same s l)
  where
    go : (t : Bool) → (eqb y.section s.section && eqb y.start s.start) ≡ t → (i : ℕ) → i < cond t (suc (alongside s l)) 0
        → ((j : ℕ) → j < alongside s l → SamePlace s (get_or l j no_split)) → SamePlace s (get_or (y ∷ l) i no_split)
    go true e zero q ih = let p = and_parts (eqb y.section s.section) (eqb y.start s.start) e in record { section = eqb-true _ _ p.0; start = eqb-true _ _ p.1 }
    go true e (suc j) q ih = ih j (le_of_suc-le-suc q)
    go false e j q ih = absurd (not-suc-le-zero q)

along_next : (s : Split) (l : List Split) → alongside s l < length l → SamePlace s (get_or l (alongside s l) no_split) → ⊥
unfolding alongside
along_next s [] h e = not-suc-le-zero h
along_next s (y ∷ l) h e = go (eqb y.section s.section && eqb y.start s.start) refl h e (along_next s l)
  where
    go : (t : Bool) → (eqb y.section s.section && eqb y.start s.start) ≡ t → cond t (suc (alongside s l)) 0 < suc (length l)
        → SamePlace s (get_or (y ∷ l) (cond t (suc (alongside s l)) 0) no_split) → (alongside s l < length l → SamePlace s (get_or l (alongside s l) no_split) → ⊥) → ⊥
    go true q h e ih = ih (le_of_suc-le-suc h) e
    go false q h e ih = false≢true (sym q ∙ ap₂ (λ (a b : Bool). a && b) (eq-eqb _ _ e.section) (eq-eqb _ _ e.start))

module _ (l : List Split) (k : ℕ) (there : k < length l) where
  abbrev here : Split
  here = get_or l k no_split

  abbrev later : List Split
  later = drop (suc k) l

  later_length : length later ≡ length l - suc k
  later_length = length-drop (suc k) l

  later_at : (i : ℕ) → get_or later i no_split ≡ get_or l (suc k + i) no_split
  later_at i = get_or-drop (suc k) l i no_split

  -- its place is one of the table
  pub last_there : last_at l k < length l
  unfolding last_at
  last_there = omega (arith, along_length here later, later_length)

  -- the row there starts where row k does
  pub last_same : SamePlace here (get_or l (last_at l k) no_split)
  unfolding last_at
  last_same = go (alongside here later) refl
    where
      go : (a : ℕ) → alongside here later ≡ a → SamePlace here (get_or l (k + a) no_split)
      go zero e = subst (λ (j : ℕ). SamePlace here (get_or l j no_split)) (sym (add-zero k)) (record { section = refl; start = refl })
      go (suc a) e =
          subst (λ (s : Split). SamePlace here s) (later_at a ∙ ap (λ (j : ℕ). get_or l j no_split) (suc-add k a ∙ sym (add-suc k a)))
          (along_same here later a (omega (arith, e)))

  -- THEOREM: no row after it starts there, in a table whose starts do not fall
  pub last_at_start : Rising l → (j : ℕ) → last_at l k < j → j < length l → SamePlace here (get_or l j no_split) → ⊥
  unfolding last_at
  last_at_start r j h q e =
      let a : ℕ = alongside here later in
      let next : ℕ = suc k + a in
      let low : NotBelow here (get_or l next no_split) = rising_at l k next no_split r (omega arith) (omega arith) in
      let same : (next ≡ j) ⊎ (next < j) = split next j (omega arith) in
      along_next here later (omega (arith, later_length)) (subst (λ (s : Split). SamePlace here s) (sym (later_at a)) (go next low same))
    where
      split : (a b : ℕ) → a ≤ b → (a ≡ b) ⊎ (a < b)
      split a b h = pick (cases_lt a b)
        where
          pick : (a < b) ⊎ (b ≤ a) → (a ≡ b) ⊎ (a < b)
          pick (inl p) = inr p
          pick (inr p) = inl (omega arith)

      go : (next : ℕ) → NotBelow here (get_or l next no_split) → (next ≡ j) ⊎ (next < j) → SamePlace here (get_or l next no_split)
      go next low (inl z) = subst (λ (i : ℕ). SamePlace here (get_or l i no_split)) (sym z) e
      go next low (inr z) =
          let high = rising_at l next j no_split r z q in
          let s : (get_or l next no_split).section ≡ here.section = omega (arith, low.sections, high.sections, e.section) in
          record { section = s; start = omega (arith, low.starts (sym s), high.starts (s ∙ sym e.section), e.start) }
