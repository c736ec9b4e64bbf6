-- The numbers that a walk can give where no split that it takes ends below its section's start, and every split's unit is listed: neither 72 nor 74. A between-range then
-- lies in the section, since the splitting end does. Assumes nothing.
use Prim.Native.Nat.{ℕ, suc, ◌+◌, ◌≤◌, ◌<◌}
use mathlib.Core.Path.{◌≡◌, sym, ap, ◌∙◌}
use mathlib.Core.List.{List, [], ◌∷◌}
use mathlib.Core.Bool.{Bool, true, false, cond, ◌&&◌}
use mathlib.Core.Logic.{inl, inr}
use native.Mathlib.Omega.{arith}
use borrow.Author.Tests.{eqb-true, eq-eqb, ltb-true, lt-ltb, leb-true, le-leb}
use lib.Dec.{eqb, leb, ltb}
use lib.ListN.{length}
use Rattle.std.proofs.lemmas.Bool.{and_parts}
use Rattle.lists.specs.Outcome.{accepted}
use Rattle.lists.specs.Members.{In}
use Rattle.lists.specs.Rows.{keep_if}
use Rattle.lists.specs.Sort.{All, none, each}
use Rattle.lists.proofs.All.{all_map, all_keep, all_both, all_first, all_rest}
use Rattle.lists.proofs.Filter.{keep_passes}
use Rattle.obj.specs.declared.Split.{Split}
use Rattle.sections.specs.Sections.{Sections}
use Rattle.sections.specs.Alignment.{default_alignment}
use Rattle.sections.proofs.Kept.{end_within}
use Rattle.splits.specs.Questions.{within, is_skipped, next_start}
use Rattle.units.specs.Units.{last_named, unit_of}
use Rattle.walk.specs.Walk.{Input, Output, start_in, end_in, splitting_end_in, outside, alignment_in, halved, on_aligned, on_kept, on_split, walk}
use Rattle.gap_laws.specs.Good.{Below}
use Rattle.restore.specs.Misfits.{ToSplit, at_start, split_past}
use Rattle.restore.proofs.Refusals.{Says, says_then, says_bind, walk_says}
use Rattle.run_entries.specs.Numbers as places
use Rattle.run_entries.proofs.Numbers.{Can, low, high, end_can, alignment_can}

-- ---- a unit that is listed
stays_low : (name found number m : ℕ) (l : List ℕ) → found < m → number + length l ≤ m → last_named name found number l < m
unfolding last_named
stays_low name found number m [] h q = h
stays_low name found number m (u ∷ l) h q = stays_low name (cond (eqb u name) number found) (suc number) m l (go (eqb u name)) (omega arith)
  where
    go : (b : Bool) → cond b number found < m
    go true = omega arith
    go false = h

named_low : (name found number : ℕ) (l : List ℕ) → In name l → last_named name found number l < number + length l
unfolding last_named
named_low name found number [] i = absurd i
named_low name found number (u ∷ l) (inl e) =
    stays_low name (cond (eqb u name) number found) (suc number) (number + suc (length l)) l
    (let z : cond (eqb u name) number found ≡ number = rw (eq-eqb u name (sym e)) in omega (arith, z)) (omega arith)
named_low name found number (u ∷ l) (inr i) = let h = named_low name (cond (eqb u name) number found) (suc number) l i in omega (arith, h)

pub unit_listed : (units : List ℕ) (name : ℕ) → In name units → unit_of units name < length units
unfolding unit_of
unit_listed units name i = let h = named_low name (length units) 0 units i in omega (arith, h)

-- ---- a split that is taken
pub record Taken (t : Input) (n end : ℕ) (s : Split) : Type 0 where
  pub high : s.start < end
  pub forward : start_in t.sections n ≤ s.end
  pub listed : unit_of t.units s.unit < length t.units

-- a range that starts at or above the section's start and ends at or below its end
inside : (sections : Sections) (n from to : ℕ) → start_in sections n ≤ from → to ≤ end_in sections n → (ltb from to && outside sections n from to) ≡ true → ⊥
inside sections n from to low high e =
    let p = and_parts (ltb from to) (outside sections n from to) e in
    let rises = ltb-true from to p.0 in
    let no : outside sections n from to ≡ false =
    rw (
      le-leb (start_in sections n) from low,
      lt-ltb from (end_in sections n) (omega (arith, rises, high)),
      lt-ltb (start_in sections n) to (omega (arith, rises, low)),
      le-leb to (end_in sections n) high,
    ) in
    absurd (let z : ◌≡◌ {A = Bool} true false = sym p.1 ∙ no in let w : ◌≡◌ {A = ℕ} 0 1 = ap (λ (b : Bool). cond b 0 1) z in omega (arith, w))

module _ (B : Type 0) (t : Input) (few : t.sections.count ≤ 64) (below : Below t.sections) where
  next_within : (n end : ℕ) → end ≤ end_in t.sections n → {l : List Split} → All (Taken t n end) l → next_start end l ≤ end_in t.sections n
  unfolding next_start
  next_within n end h none = h
  next_within n end h (each p q) = omega (arith, h, p.high)

  -- ---- a split at `current`
  module _ (n current : ℕ) (there : n < 65536) (inside-section : current ≤ 4026531840) (s : Split) (out : Output) where
    shared : Can B 11 n current
    shared = low B (places.shared (omega arith) (omega arith)) (λ b. there) inside-section

    aligned_can : (unit alignment : ℕ) → Says (Can B) (on_aligned t n current unit alignment s out)
    unfolding on_aligned
    aligned_can unit alignment =
        says_then (Can B) 75 _ _ _ _ (λ e. high B (places.full (omega arith) (omega arith)) (omega arith)) (λ e.
        says_then (Can B) 11 _ _ _ _ (λ e. shared) (λ e.
        says_then (Can B) 11 _ _ _ _ (λ e. shared) (λ e.
        says_then (Can B) 11 _ _ _ _ (λ e. shared) (λ e.
        says_then (Can B) 76 _ _ _ _ (λ e. high B (places.full (omega arith) (omega arith)) (omega arith)) (λ e. tt)))))

    kept_can : unit_of t.units s.unit < length t.units → Says (Can B) (on_kept t n current s out)
    unfolding on_kept
    kept_can listed =
        says_then (Can B) 74 _ _ _ _ (λ e. absurd (omega (arith, eqb-true (unit_of t.units s.unit) (length t.units) e, listed))) (λ e.
        says_bind (Can B) (alignment_in t.image (t.sections.head n) n current s) _
        (alignment_can B t.image.symbol t.image.count n (default_alignment (t.sections.head n) (t.image.name (t.sections.head n).name)) s.alignment current s.end
        there inside-section)
        (λ c is. aligned_can (unit_of t.units s.unit) (halved 16 c.value current)))

    split_can : (end next : ℕ) → Taken t n end s → next ≤ end_in t.sections n → Says (Can B) (on_split t n current next s out)
    unfolding on_split
    split_can end next taken h =
        says_then (Can B) 71 _ _ _ _ (λ e. high B (places.missing (omega arith) (omega arith)) (omega arith)) (λ e.
        says_then (Can B) 72 _ _ _ _ (λ f. absurd (inside t.sections n s.end next taken.forward h f)) (λ f.
        says_then (Can B) 73 _ _ _ _ (λ k. high B (places.nonzero (omega arith) (omega arith)) (omega arith)) (λ k. go (is_skipped s))))
      where
        go : (b : Bool) → Says (Can B) (cond b (accepted out) (on_kept t n current s out))
        go true = tt
        go false = kept_can taken.listed

  module _ (forward : (n end : ℕ) → n < t.sections.count → splitting_end_in t.image t.sections n ≡ accepted end
      → All (λ s. s.section ≡ n → s.start < end → start_in t.sections n ≤ s.start → start_in t.sections n ≤ s.end) t.splits)
      (listed : All (λ s. unit_of t.units s.unit < length t.units) t.splits) where
    taken_all : (n end : ℕ) → n < t.sections.count → splitting_end_in t.image t.sections n ≡ accepted end
        → All (Taken t n end) (keep_if (within n (start_in t.sections n) end) t.splits)
    taken_all n end h e =
        all_map (λ s q. one s q.0.0 q.0.1 q.1)
        (all_both (all_keep (within n (start_in t.sections n) end) (all_both (forward n end h e) listed)) (keep_passes (within n (start_in t.sections n) end) t.splits))
      where
        low : ℕ
        low = start_in t.sections n

        one : (s : Split) → (s.section ≡ n → s.start < end → low ≤ s.start → low ≤ s.end) → unit_of t.units s.unit < length t.units → within n low end s ≡ true
            → Taken t n end s
        one s f l w =
            let a = and_parts (eqb s.section n) (leb low s.start && ltb s.start end) w in
            let b = and_parts (leb low s.start) (ltb s.start end) a.1 in
            let high = ltb-true s.start end b.1 in
            record { high = high; forward = f (eqb-true s.section n a.0) high (leb-true low s.start b.0); listed = l }

    -- the splits that are left where the walk comes to
    left_taken : {n end current : ℕ} {out : Output} {l : List Split} → n < t.sections.count → splitting_end_in t.image t.sections n ≡ accepted end
        → ToSplit t n end current out l → All (Taken t n end) l
    left_taken {n} {end} h e (at_start q) = taken_all n end h e
    left_taken h e (split_past q b f) = all_rest (left_taken h e q)

    -- THEOREM: neither 72 nor 74 comes
    pub walk_can : Says (Can B) (walk t)
    walk_can =
        walk_says (Can B) t (λ n h.
        let b = below n h in
        record {
          end = end_can B t.image n (t.sections.head n) (t.sections.bytes n) (omega arith) (omega arith);
          missing = λ current. high B (places.missing (omega arith) (omega arith)) (omega arith);
          split = λ s current out r.
              let within-section = end_within t.image n (t.sections.head n) (t.sections.bytes n) r.end r.ends in
              let taken = left_taken h r.ends r.left in
              split_can n current (omega arith) (omega (arith, b, within-section, r.below)) s out r.end (next_start r.end r.later) (all_first taken)
              (next_within n r.end within-section (all_rest taken));
        })
