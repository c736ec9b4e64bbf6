-- The turns of the walk: what it gives from a split, and from a section, by what the code has asked so far. Assumes nothing.
use mathlib.Core.Path.{◌≡◌, refl, sym, ap, ◌∙◌}
use mathlib.Core.List.{List, [], ◌∷◌}
use mathlib.Core.Bool.{Bool, true, false, cond, not, ◌&&◌}
use mathlib.Core.Logic.{◌≢◌}
use Prim.Native.Nat.{ℕ, suc, ◌+◌, ◌-◌, ◌%◌, ◌≤◌, ◌<◌}
use native.Mathlib.Nat.{sub-zero}
use native.Mathlib.Numerals.{add-one}
use native.Mathlib.Omega.{arith}
use lib.Dec.{eqb, leb, ltb}
use lib.ListN.{get_or}
use borrow.Author.Tests.{lt-ltb, le-ltb, leb-true, ne_eqb}
use Rattle.std.specs.Prelude.{None, Some}
use Rattle.std.proofs.lemmas.Bool.{and_parts}
use Rattle.lists.specs.Rows.{tabulate, keep_if}
use Rattle.lists.specs.Outcome.{Outcome, accepted, refused, ◌>>=◌}
use Rattle.lists.proofs.Outcomes.{fails, passes}
use Rattle.lists.proofs.Binds.{bind_goes, bind_stops, bind_assoc}
use Rattle.obj.specs.declared.Split.{Split}
use Rattle.splits.specs.Columns.{Columns, row_of, row_at, rows}
use Rattle.splits.specs.Questions.{within, from_hit, Hit, next_start}
use Rattle.walk.specs.Walk.{Input, Output, start_in, splitting_end_in, halved, on_aligned, on_split, walk_splits, walk_section, walk_sections}
use Rattle.walk.specs.Steps.{decide}
use Rattle.walk.proofs.Deciding.{carried, decide_then_give}

-- ---- a row's start
row_start : (c : Columns) (i : ℕ) → (row_at c i).start ≡ get_or c.starts i 0
unfolding row_of
row_start c i = refl

-- a row that the walk takes starts at or above the section's start
pub row_low : (n low end : ℕ) (c : Columns) (i : ℕ) → within n low end (row_at c i) ≡ true → low ≤ (row_at c i).start
row_low n low end c i e =
    let p = and_parts (eqb (row_at c i).section n) (leb low (row_at c i).start && ltb (row_at c i).start end) e in
    leb-true low (row_at c i).start (and_parts (leb low (row_at c i).start) (ltb (row_at c i).start end) p.1).0

-- ---- the splits of a section
module _ (t : Input) (n end current : ℕ) (out : Output) where
  -- the splitting end is reached
  pub splits_end : (l : List Split) → end ≤ current → walk_splits t n end current out l ≡ accepted out
  unfolding walk_splits
  splits_end [] h = passes 70 n current _ _ (le-ltb current end h)
  splits_end (s ∷ l) h = rw (le-ltb current end h)

  module _ (p : Split → Bool) (c : Columns) (count i : ℕ) (h : current < end) where
    -- "70 no split"
    pub splits-none : count ≤ i → walk_splits t n end current out (from_hit p c count i) ≡ refused 70 n current
    unfolding walk_splits
    splits-none q = rw (le-ltb i count q) (fails 70 n current _ _ (lt-ltb current end h))

    -- a split, and those after it
    module _ (q : i < count) (j next : ℕ) (hits : Hit p c count (i + 1) j) (e : next ≡ cond (ltb j count) (get_or c.starts j 0) end) where
      next_is : next_start end (from_hit p c count j) ≡ next
      unfolding next_start
      next_is = go (ltb j count) ∙ sym e
        where
          go : (b : Bool) → next_start end (cond b (row_at c j ∷ keep_if p (tabulate (row_at c) (j + 1) (count - (j + 1)))) []) ≡ cond b (get_or c.starts j 0) end
          go true = row_start c j
          go false = refl

      splits_turn : walk_splits t n end current out (from_hit p c count i) ≡ (on_split t n current next (row_at c i) out >>= λ o. walk_splits t n end next o (from_hit p c count j))
      unfolding walk_splits
      splits_turn =
          rw (lt-ltb i count q, lt-ltb current end h)
          ((λ d. on_split t n current (next_start end (hits.is d)) (row_at c i) out >>= λ o. walk_splits t n end (next_start end (hits.is d)) o (hits.is d))
          ∙ (λ d. on_split t n current (next_is d) (row_at c i) out >>= λ o. walk_splits t n end (next_is d) o (from_hit p c count j)))

      -- by the decision
      module _ (k : Output → Outcome Output) where
        abbrev here : Outcome Output
        here = walk_splits t n end current out (from_hit p c count i) >>= k

        abbrev after : Output → Outcome Output
        after o = walk_splits t n end next o (from_hit p c count j) >>= k

        decided : here ≡ (decide t.image t.sections t.units n current next (row_at c i) >>= λ d. carried t n current (row_at c i) out d >>= after)
        decided =
            ap (λ (m : Outcome Output). m >>= k) splits_turn
            ∙ bind_assoc (on_split t n current next (row_at c i) out) (λ o. walk_splits t n end next o (from_hit p c count j)) k
            ∙ ap (λ (m : Outcome Output). m >>= after) (decide_then_give t n current next (row_at c i) out)
            ∙ bind_assoc (decide t.image t.sections t.units n current next (row_at c i)) (carried t n current (row_at c i) out) after

        -- 11 and 71 to 74
        pub turn_fault : (number section address : ℕ) → refused number section address ≡ decide t.image t.sections t.units n current next (row_at c i)
            → here ≡ refused number section address
        turn_fault number section address d = decided ∙ bind_stops _ _ number section address (sym d)

        -- it is skipped
        pub turn_skip : accepted None ≡ decide t.image t.sections t.units n current next (row_at c i) → here ≡ after out
        unfolding ◌>>=◌
        turn_skip d = decided ∙ bind_goes _ _ None (sym d)

        -- it gives to a unit
        module _ (unit alignment : ℕ) (d : accepted (Some (record { unit = unit; alignment = alignment })) ≡ decide t.image t.sections t.units n current next (row_at c i)) (a : ℕ) (half : halved 16 alignment current ≡ a) where
          gives : here ≡ (on_aligned t n current unit a (row_at c i) out >>= after)
          gives =
              decided ∙ bind_goes _ _ (Some (record { unit = unit; alignment = alignment })) (sym d)
              ∙ ap (λ (x : ℕ). on_aligned t n current unit x (row_at c i) out >>= after) half

          -- "75 alignment misfits"
          pub turn_misfit : current % a ≢ 0 → here ≡ refused 75 n current
          unfolding on_aligned
          turn_misfit z = gives ∙ bind_stops _ after 75 n current (fails 75 n current _ _ (ap not (ne_eqb (current % a) 0 z)))

          -- 11 and 76
          pub turn_refused : (number section address : ℕ) → on_aligned t n current unit a (row_at c i) out ≡ refused number section address → here ≡ refused number section address
          turn_refused number section address e = gives ∙ bind_stops _ after number section address e

          -- it has given
          pub turn_given : (o : Output) → on_aligned t n current unit a (row_at c i) out ≡ accepted o → here ≡ after o
          turn_given o e = gives ∙ bind_goes _ after o e

-- ---- the sections
module _ (t : Input) (n last : ℕ) (out : Output) where
  pub sections_end : n ≡ last → walk_sections t n (last - n) out ≡ accepted out
  unfolding walk_sections
  sections_end e = ap (λ (m : ℕ). walk_sections t n m out) (let z : last - n ≡ 0 = omega arith in z)

  module _ (h : n < last) where
    -- what follows the section
    abbrev pub later : Output → Outcome Output
    later o = walk_sections t (n + 1) (last - (n + 1)) o

    sections_turn : walk_sections t n (last - n) out ≡ (walk_section t n out >>= later)
    unfolding walk_sections
    sections_turn =
        ap (λ (m : ℕ). walk_sections t n m out) (let z : last - n ≡ suc (last - (n + 1)) = omega arith in z)
        ∙ ap (λ (m : ℕ). walk_section t n out >>= λ o. walk_sections t m (last - (n + 1)) o) (sym (add-one n))

    -- "10 `.ctors` or `.dtors` with 1 to 3 bytes"
    pub section_short : (number section address : ℕ) → splitting_end_in t.image t.sections n ≡ refused number section address
        → walk_sections t n (last - n) out ≡ refused number section address
    unfolding walk_section
    section_short number section address e = sections_turn ∙ bind_stops _ later number section address (bind_stops _ _ number section address e)

    -- its splits, from the first that is taken
    pub section_starts : (low end : ℕ) → splitting_end_in t.image t.sections n ≡ accepted end → low ≡ start_in t.sections n
        → (c : Columns) (count r : ℕ) → t.splits ≡ rows c count → Hit (within n low end) c count 0 r
        → walk_sections t n (last - n) out ≡ (walk_splits t n end low out (from_hit (within n low end) c count r) >>= later)
    unfolding walk_section
    section_starts low end e f c count r g hits =
        sections_turn
        ∙ ap (λ (m : Outcome Output). m >>= later)
        (bind_goes _ _ end e
        ∙ (λ d. walk_splits t n end (sym f d) out (keep_if (within n (sym f d) end) (g d)))
        ∙ ap (λ (m : ℕ). walk_splits t n end low out (keep_if (within n low end) (tabulate (row_at c) 0 m))) (sym (sub-zero count))
        ∙ ap (walk_splits t n end low out) hits.is)

    -- the section is done
    pub section_ends : (end current : ℕ) (l : List Split) (o : Output) → end ≤ current → (walk_splits t n end current o l >>= later) ≡ later o
    section_ends end current l o q = bind_goes _ later o (splits_end t n end current o l q)
