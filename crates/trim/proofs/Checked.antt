-- The trim of a table that passed the check: every end that falls does so in its own split, above its start, so that 54 never comes and ends only fall;
-- a split that starts at or below its section's splitting end keeps its end at or above its start. Assumes nothing.
use mathlib.Core.Path.{◌≡◌, refl, sym, ap, ap₂, subst, ◌∙◌}
use mathlib.Core.List.{List, [], ◌∷◌, ◌++◌}
use mathlib.Core.Bool.{Bool, true, false, cond, not, ◌&&◌}
use mathlib.Core.Logic.{◌⊎◌, inl, inr}
use Prim.Native.Nat.{ℕ, zero, suc, ◌+◌, ◌≤◌, ◌<◌, suc-le-suc}
use native.Mathlib.Nat.{le_of_suc-le-suc, not-suc-le-zero, add-zero}
use native.Mathlib.Numerals.{add-one}
use native.Mathlib.Omega.{arith}
use borrow.Author.Tests.{eqb-true, ltb-true, lt-leb}
use lib.Dec.{eqb, ltb}
use lib.ListN.{length, get_or, set, drop, length-append}
use lib.Seq.{append_snoc, get_or-append_seam}
use Rattle.lists.specs.Outcome.{Outcome, accepted, ◌>>◌}
use Rattle.lists.specs.Rows.{some}
use Rattle.lists.proofs.Outcomes.{same_accepted, then_both, bind_inv, passes}
use Rattle.lists.proofs.Binds.{bind_goes}
use Rattle.align.specs.Align.{bad_align, align_up}
use Rattle.align.proofs.Theorems.{align_up-least}
use Rattle.obj.specs.declared.Section.{Section}
use Rattle.obj.specs.declared.Symbol.{Symbol}
use Rattle.obj.specs.declared.Split.{Split}
use Rattle.obj.specs.Nothing.{no_split}
use Rattle.symbols.specs.Ranges.{last_in}
use Rattle.symbols.specs.Sound.{Sound}
use Rattle.std.specs.Prelude.{Option, Some, None}
use Rattle.std.proofs.lemmas.Bool.{and_parts}
use Rattle.symbols.proofs.Finds.{in_found}
use Rattle.sections.specs.Image.{Image}
use Rattle.sections.specs.Sections.{Sections}
use Rattle.sections.specs.Alignment.{Chosen, alignment_from}
use Rattle.sections.specs.Ends.{splitting_end}
use Rattle.sections.proofs.Good.{from_good}
use Rattle.splits.specs.Updates.{with_end}
use Rattle.validate.specs.Check.{validate_from, validate}
use Rattle.validate.proofs.Laws.{one_passed, tail_passed, check_rises}
use Rattle.trim.specs.Trim.{end_of, ask_next, aligned_end, fall_of, falls_of, alongside, last_at, closed_below, carry_one, carry_from, cut_to, cut_last, cut_section, cut_from, trimmed}
use Rattle.trim.proofs.Ends.{section_turn, endless_carry, endless_section, same_section, same_start, Passes, trim_passes}
use Rattle.trim.proofs.Bounds.{falls_cons, falls_none}

-- ---- an end that falls
module _ (g : Image) (head : ℕ → Section) (sound : Sound g.symbol g.count) where
  -- aligning up does not lower
  up_above : (s : Split) → bad_align s.alignment ≡ false → (c : Chosen) → alignment_from g head s.start s ≡ accepted c → (v : ℕ) → v ≤ align_up v c.value
  up_above s good c e v = (align_up-least v c.value (from_good g head s.start s sound good c e)).above

  -- the aligned end lies above the start, or at or above the end
  aligned_above : (s : Split) → bad_align s.alignment ≡ false → (end : ℕ) → aligned_end g head s ≡ accepted end → (s.start < end) ⊎ (s.end ≤ end)
  unfolding aligned_end end_of
  aligned_above s good end e =
      let a = bind_inv (last_in g.symbol g.count s.section s.start s.end) _ _ e in
      let b = bind_inv (alignment_from g head s.start s) _ _ a.2 in
      go a.0 a.1 b.0 b.1 (same_accepted b.2)
    where
      go : (found : Option ℕ) → last_in g.symbol g.count s.section s.start s.end ≡ accepted found → (c : Chosen) → alignment_from g head s.start s ≡ accepted c
          → align_up (end_of g.symbol s.end found) c.value ≡ end → (s.start < end) ⊎ (s.end ≤ end)
      go (Some i) is c chosen up =
          let found = in_found g.symbol g.count s.section s.start s.end i is in
          inl (omega (arith, found.low, found.sized, up_above s good c chosen ((g.symbol i).address + (g.symbol i).size), up))
      go None is c chosen up = inr (omega (arith, up_above s good c chosen s.end, up))

  pub fall_above : (s : Split) → bad_align s.alignment ≡ false → (later : List Split) (fall : ℕ) → fall_of g head s later ≡ accepted (suc fall) → (s.start < suc fall) × (suc fall < s.end)
  unfolding fall_of
  fall_above s good later fall e =
      let q = bind_inv (aligned_end g head s) _ _ e in
      go q.0 (aligned_above s good q.0 q.1) (ltb q.0 s.end) refl q.2
    where
      go : (end : ℕ) → (s.start < end) ⊎ (s.end ≤ end) → (t : Bool) → ltb end s.end ≡ t
          → cond t (ask_next g head s later >> accepted end) (accepted 0) ≡ accepted (suc fall) → (s.start < suc fall) × (suc fall < s.end)
      go end (inl h) true p q =
          let z = same_accepted (then_both (ask_next g head s later) (accepted end) (suc fall) q).1 in
          (omega (arith, h, z), omega (arith, ltb-true end s.end p, z))
      go end (inr h) true p q = absurd (omega (arith, h, ltb-true end s.end p))
      go end h false p q = absurd (omega (arith, same_accepted q))

  -- .. of each row of a table
  falls_above : (l : List Split) (falls : List ℕ) (k : ℕ) → ((j : ℕ) → j < length l → bad_align (get_or l j no_split).alignment ≡ false) → falls_of g head l ≡ accepted falls → k < length l
      → (get_or falls k 0 ≡ 0) ⊎ (((get_or l k no_split).start < get_or falls k 0) × (get_or falls k 0 < (get_or l k no_split).end))
  falls_above [] falls k good e h = absurd (not-suc-le-zero h)
  falls_above (s ∷ l) falls zero good e h =
      let q = falls_cons g head s l falls e in
      go q.0 q.2 (ap (λ (t : List ℕ). get_or t 0 0) q.4)
    where
      go : (fall : ℕ) → fall_of g head s l ≡ accepted fall → get_or falls 0 0 ≡ fall → (get_or falls 0 0 ≡ 0) ⊎ ((s.start < get_or falls 0 0) × (get_or falls 0 0 < s.end))
      go zero p z = inl z
      go (suc fall) p z = let a = fall_above s (good 0 (omega arith)) l fall p in inr (omega (arith, a.0, z), omega (arith, a.1, z))
  falls_above (s ∷ l) falls (suc k) good e h =
      let q = falls_cons g head s l falls e in
      rw q.4 (falls_above l q.1 k (λ j lt. good (suc j) (suc-le-suc lt)) q.3 (le_of_suc-le-suc h))

-- ---- every fall in its own split

-- s with its fall
unfoldable pub fallen_one : (fall : ℕ) → Split → Split
fallen_one zero s = s
fallen_one (suc end) s = with_end (suc end) s

-- each row with its own fall
unfoldable pub fallen : (falls : List ℕ) → List Split → List Split
fallen [] l = l
fallen (fall ∷ falls) [] = []
fallen (fall ∷ falls) (s ∷ l) = fallen_one fall s ∷ fallen falls l

module _ (s : Split) (l : List Split) where
  drop_past : (front : List Split) → drop (suc (length front)) (front ++ (s ∷ l)) ≡ l
  drop_past [] = refl
  drop_past (x ∷ front) = drop_past front

  set_there : (front : List Split) (x : Split) → set (front ++ (s ∷ l)) (length front) x ≡ front ++ (x ∷ l)
  set_there [] x = refl
  set_there (y ∷ front) x = ap (λ (t : List Split). y ∷ t) (set_there front x)

  module _ (front : List Split) (alone : alongside s l ≡ 0) (rises : s.start < s.end) where
    abbrev table : List Split
    table = front ++ (s ∷ l)

    is_s : get_or table (length front) no_split ≡ s
    is_s = get_or-append_seam front s l no_split

    last_own : last_at table (length front) ≡ length front
    unfolding last_at
    last_own =
        ap (λ (m : ℕ). length front + m) (ap₂ alongside is_s (drop_past front) ∙ alone) ∙ add-zero (length front)

    last_row : get_or table (last_at table (length front)) no_split ≡ s
    last_row = ap (λ (m : ℕ). get_or table m no_split) last_own ∙ is_s

    own_fall : (end : ℕ) → carry_one (length front) (suc end) table ≡ accepted (front ++ (with_end (suc end) s ∷ l))
    unfolding carry_one
    own_fall end =
        passes 54 _ _ _ _
        (ap₂ (λ (a b : Split). closed_below a.start b) is_s last_row ∙ ap (λ (t : Bool). t && not (eqb s.end 0)) (lt-leb s.end s.start rises))
        ∙ ap accepted (ap₂ (λ (m : ℕ) (y : Split). set table m (with_end (suc end) y)) last_own last_row ∙ set_there front (with_end (suc end) s))

-- the ways in which a row falls
none_falls : (k : ℕ) (l : List Split) → carry_one k 0 l ≡ accepted l
unfolding carry_one
none_falls k l = refl

fallen_not : (s : Split) → s ≡ fallen_one 0 s
unfolding fallen_one
fallen_not s = refl

fallen_to : (end : ℕ) (s : Split) → with_end (suc end) s ≡ fallen_one (suc end) s
unfolding fallen_one
fallen_to end s = refl

-- no split after s starts where s does, if s is not empty and passed the check together with them
module _ (symbol : ℕ → Symbol) (count : ℕ) where
  alone_after : (s : Split) (l : List Split) → s.start < s.end → validate_from symbol count s.section s.end l ≡ accepted tt → alongside s l ≡ 0
  unfolding alongside
  alone_after s [] h e = refl
  alone_after s (y ∷ l) h e = go (eqb y.section s.section && eqb y.start s.start) refl
    where
      go : (t : Bool) → (eqb y.section s.section && eqb y.start s.start) ≡ t → cond t (suc (alongside s l)) 0 ≡ 0
      go true q =
          let p = and_parts (eqb y.section s.section) (eqb y.start s.start) q in
          let passed = one_passed symbol count s.section s.end y (tail_passed symbol count s.section s.end y l e).0 in
          absurd (omega (arith, h, eqb-true y.start s.start p.1, passed.apart (eqb-true y.section s.section p.0)))
      go false q = refl

module _ (g : Image) (head : ℕ → Section) (sound : Sound g.symbol g.count) where
  own_falls : (front l : List Split) (falls : List ℕ) (before last : ℕ) → validate_from g.symbol g.count before last l ≡ accepted tt
      → ((k : ℕ) → k < length l → bad_align (get_or l k no_split).alignment ≡ false) → falls_of g head l ≡ accepted falls
      → carry_from (length front) falls (front ++ l) ≡ accepted (front ++ fallen falls l)
  unfolding carry_from fallen
  own_falls front [] falls before last v good e = rw (falls_none g head falls e)
  own_falls front (s ∷ l) falls before last v good e =
      let q = falls_cons g head s l falls e in
      let tail = (tail_passed g.symbol g.count before last s l v).1 in
      let rest = own_falls (front ++ (fallen_one q.0 s ∷ [])) l q.1 s.section s.end tail (λ k h. good (suc k) (suc-le-suc h)) q.3 in
      ap (λ (t : List ℕ). carry_from (length front) t (front ++ (s ∷ l))) q.4
      ∙ bind_goes _ _ (front ++ (fallen_one q.0 s ∷ l)) (one q.0 q.2 tail)
      ∙ onward q.0 q.1 rest
      ∙ ap (λ (t : List ℕ). accepted (front ++ fallen t (s ∷ l))) (sym q.4)
    where
      one : (fall : ℕ) → fall_of g head s l ≡ accepted fall → validate_from g.symbol g.count s.section s.end l ≡ accepted tt
          → carry_one (length front) fall (front ++ (s ∷ l)) ≡ accepted (front ++ (fallen_one fall s ∷ l))
      one zero p t = none_falls (length front) (front ++ (s ∷ l)) ∙ ap (λ (y : Split). accepted (front ++ (y ∷ l))) (fallen_not s)
      one (suc fall) p t =
          let a = fall_above g head sound s (good 0 (omega arith)) l fall p in
          let rises : s.start < s.end = omega (arith, a.0, a.1) in
          own_fall s l front (alone_after g.symbol g.count s l rises t) rises fall ∙ ap (λ (y : Split). accepted (front ++ (y ∷ l))) (fallen_to fall s)

      onward : (fall : ℕ) (rest : List ℕ)
          → carry_from (length (front ++ (fallen_one fall s ∷ []))) rest ((front ++ (fallen_one fall s ∷ [])) ++ l) ≡ accepted ((front ++ (fallen_one fall s ∷ [])) ++ fallen rest l)
          → carry_from (suc (length front)) rest (front ++ (fallen_one fall s ∷ l)) ≡ accepted (front ++ (fallen_one fall s ∷ fallen rest l))
      onward fall rest h =
          let x : Split = fallen_one fall s in
          ap₂ (λ (m : ℕ) (t : List Split). carry_from m rest t) (sym (length-append front (x ∷ []) ∙ add-one (length front))) (sym (append_snoc front x l))
          ∙ h
          ∙ ap accepted (append_snoc front x (fallen rest l))

-- ---- ends after the falls

fallen_at : (falls : List ℕ) (l : List Split) (k : ℕ) → k < length l → get_or (fallen falls l) k no_split ≡ fallen_one (get_or falls k 0) (get_or l k no_split)
unfolding fallen fallen_one
fallen_at [] l k h = refl
fallen_at (fall ∷ falls) [] k h = absurd (not-suc-le-zero h)
fallen_at (fall ∷ falls) (s ∷ l) zero h = refl
fallen_at (fall ∷ falls) (s ∷ l) (suc k) h = fallen_at falls l k (le_of_suc-le-suc h)

-- the end of a row with its fall: no higher, and not below the start if it was not
one_end : (fall : ℕ) (s : Split) → (fall ≡ 0) ⊎ ((s.start < fall) × (fall < s.end)) → ((fallen_one fall s).end ≤ s.end) × (s.start ≤ s.end → s.start ≤ (fallen_one fall s).end)
unfolding fallen_one
one_end zero s h = (omega arith, λ q. q)
one_end (suc end) s (inl z) = absurd (omega (arith, z))
one_end (suc end) s (inr h) = (omega (arith, h.1), λ q. omega (arith, h.0))

-- ---- ends after the cuts

-- a cut leaves a row's end, or lowers it to the splitting end of its section
cut_end : (n end : ℕ) (l : List Split) (k : ℕ)
    → ((get_or (cut_last n end l) k no_split).end ≡ (get_or l k no_split).end)
    ⊎ (((get_or l k no_split).section ≡ n) × ((get_or (cut_last n end l) k no_split).end ≡ end) × (end < (get_or l k no_split).end))
unfolding cut_last cut_to
cut_end n end [] k = inl refl
cut_end n end (s ∷ l) k = go (eqb s.section n) refl (not (some (λ y. eqb y.section n) l)) k (cut_end n end l)
  where
    below : (t : Bool) → ltb end s.end ≡ t → s.section ≡ n → ((cond t (with_end end s) s).end ≡ s.end) ⊎ ((s.section ≡ n) × ((cond t (with_end end s) s).end ≡ end) × (end < s.end))
    below true e z = inr (z, refl, ltb-true end s.end e)
    below false e z = inl refl

    go : (t : Bool) → eqb s.section n ≡ t → (u : Bool) (k : ℕ)
        → ((j : ℕ) → ((get_or (cut_last n end l) j no_split).end ≡ (get_or l j no_split).end)
        ⊎ (((get_or l j no_split).section ≡ n) × ((get_or (cut_last n end l) j no_split).end ≡ end) × (end < (get_or l j no_split).end)))
        → ((get_or (cond (t && u) (cond (ltb end s.end) (with_end end s) s ∷ l) (s ∷ cut_last n end l)) k no_split).end ≡ (get_or (s ∷ l) k no_split).end)
        ⊎ (((get_or (s ∷ l) k no_split).section ≡ n)
        × ((get_or (cond (t && u) (cond (ltb end s.end) (with_end end s) s ∷ l) (s ∷ cut_last n end l)) k no_split).end ≡ end)
        × (end < (get_or (s ∷ l) k no_split).end))
    go true e true zero ih = below (ltb end s.end) refl (eqb-true s.section n e)
    go true e true (suc k) ih = inl refl
    go true e false zero ih = inl refl
    go true e false (suc k) ih = ih k
    go false e u zero ih = inl refl
    go false e u (suc k) ih = ih k

module _ (g : Image) (sections : Sections) where
  -- where section n may be split at last
  abbrev pub splitting : ℕ → Outcome ℕ
  splitting n = splitting_end g n (sections.head n) (sections.bytes n)

  -- what the cuts do to row k: no higher end, and not below the start if neither it was nor the splitting end is
  pub record Cut (l m : List Split) (k : ℕ) : Type 0 where
    pub lower : (get_or m k no_split).end ≤ (get_or l k no_split).end
    pub rises : ((end : ℕ) → splitting (get_or l k no_split).section ≡ accepted end → (get_or l k no_split).start ≤ end)
        → (get_or l k no_split).start ≤ (get_or l k no_split).end → (get_or l k no_split).start ≤ (get_or m k no_split).end

  section_cuts : (n : ℕ) (l m : List Split) → cut_section g sections n l ≡ accepted m → (k : ℕ) → Cut l m k
  section_cuts n l m e k = go m (section_turn g sections n l m e)
    where
      by : (end : ℕ) → splitting n ≡ accepted end → (x : ℕ)
          → (x ≡ (get_or l k no_split).end) ⊎ (((get_or l k no_split).section ≡ n) × (x ≡ end) × (end < (get_or l k no_split).end))
          → (x ≤ (get_or l k no_split).end)
          × (((last : ℕ) → splitting (get_or l k no_split).section ≡ accepted last → (get_or l k no_split).start ≤ last) → (get_or l k no_split).start ≤ (get_or l k no_split).end → (get_or l k no_split).start ≤ x)
      by end is x (inl z) = (omega (arith, z), λ f q. omega (arith, q, z))
      by end is x (inr z) = (omega (arith, z.1, z.2), λ f q. omega (arith, z.1, f end (ap splitting z.0 ∙ is)))

      go : (c : List Split) → (c ≡ l) ⊎ ((end : ℕ) × (splitting n ≡ accepted end) × (c ≡ cut_last n end l)) → Cut l c k
      go c (inl q) = subst (λ (t : List Split). Cut l t k) (sym q) (record { lower = omega arith; rises = λ f h. h })
      go c (inr q) =
          let b = by q.0 q.1 _ (cut_end n q.0 l k) in
          subst (λ (t : List Split). Cut l t k) (sym q.2) (record { lower = b.0; rises = b.1 })

  from_cuts : (j n : ℕ) (l m : List Split) → cut_from g sections j n l ≡ accepted m → (k : ℕ) → Cut l m k
  unfolding cut_from
  from_cuts zero n l m e k = subst (λ (t : List Split). Cut l t k) (same_accepted e) (record { lower = omega arith; rises = λ f h. h })
  from_cuts (suc j) n l m e k =
      let b = bind_inv (cut_section g sections n l) _ _ e in
      let first = section_cuts n l b.0 b.1 k in
      let rest = from_cuts j (suc n) b.0 m b.2 k in
      let same = endless_section g sections n l b.0 b.1 in
      let section = same_section l b.0 same k in
      let start = same_start l b.0 same k in
      record {
        lower = omega (arith, first.lower, rest.lower);
        rises = λ f h.
            omega (arith, start, rest.rises (λ end is. omega (arith, start, f end (ap splitting (sym section) ∙ is))) (omega (arith, start, first.rises f h)));
      }

-- ---- the trim of a table that passed the check
module _ (g : Image) (sections : Sections) (sound : Sound g.symbol g.count) (rows : List Split) (passed : validate g.symbol g.count rows ≡ accepted tt)
    (aligned : (k : ℕ) → k < length rows → bad_align (get_or rows k no_split).alignment ≡ false) where
  -- THEOREM: every end that falls does so in its own split
  pub carried_own : (falls : List ℕ) → falls_of g sections.head rows ≡ accepted falls → carry_from 0 falls rows ≡ accepted (fallen falls rows)
  unfolding validate
  carried_own falls e = own_falls g sections.head sound [] rows falls 0 0 passed aligned e

  module _ (out : List Split) (is : trimmed g sections rows ≡ accepted out) (k : ℕ) (there : k < length rows) where
    abbrev passes_of : Passes g sections rows out
    passes_of = trim_passes g sections rows out is

    after_falls : get_or passes_of.fallen k no_split ≡ fallen_one (get_or passes_of.falls k 0) (get_or rows k no_split)
    after_falls =
        ap (λ (t : List Split). get_or t k no_split) (same_accepted (sym passes_of.carried ∙ carried_own passes_of.falls passes_of.found))
        ∙ fallen_at passes_of.falls rows k there

    falls_of_lem : ((get_or passes_of.fallen k no_split).end ≤ (get_or rows k no_split).end)
        × ((get_or rows k no_split).start ≤ (get_or rows k no_split).end → (get_or rows k no_split).start ≤ (get_or passes_of.fallen k no_split).end)
    falls_of_lem =
        subst (λ (s : Split). (s.end ≤ (get_or rows k no_split).end) × ((get_or rows k no_split).start ≤ (get_or rows k no_split).end → (get_or rows k no_split).start ≤ s.end)) (sym after_falls)
        (one_end (get_or passes_of.falls k 0) (get_or rows k no_split) (falls_above g sections.head sound rows passes_of.falls k aligned passes_of.found there))

    -- THEOREM: no end rises
    pub trim_lower : (get_or out k no_split).end ≤ (get_or rows k no_split).end
    trim_lower = omega (arith, (from_cuts g sections sections.count 0 passes_of.fallen out passes_of.cut k).lower, falls_of_lem.0)

    -- THEOREM: a split that starts at or below its section's splitting end does not end below its start
    pub trim_rises : ((end : ℕ) → splitting g sections (get_or rows k no_split).section ≡ accepted end → (get_or rows k no_split).start ≤ end)
        → (get_or rows k no_split).start ≤ (get_or out k no_split).end
    trim_rises f =
        let same = endless_carry 0 passes_of.falls rows passes_of.fallen passes_of.carried in
        let section = same_section rows passes_of.fallen same k in
        let start = same_start rows passes_of.fallen same k in
        let high = falls_of_lem.1 (check_rises g.symbol g.count rows no_split passed k there) in
        omega (
          arith,
          start,
          (from_cuts g sections sections.count 0 passes_of.fallen out passes_of.cut k).rises
              (λ end e. omega (arith, start, f end (ap (splitting g sections) (sym section) ∙ e))) (omega (arith, start, high)),
        )
