-- Marking common keeps a split table without a fault so: only the lowest bit of some flags is set, and sections, starts, ends and names stay. Assumes nothing.
use Prim.Native.Nat.{ℕ, zero, suc, ◌-◌, ◌<◌}
use mathlib.Core.Path.{◌≡◌, refl, sym, ap, subst, ◌∙◌}
use mathlib.Core.List.{List, map}
use mathlib.Core.Bool.{Bool, true, false, cond, ◌&&◌}
use native.Mathlib.Omega.{arith}
use lib.Dec.{eqb, leb}
use lib.ListN.{length, get_or, length-map}
use Rattle.std.proofs.lemmas.List.{get_or-map}
use Rattle.lists.specs.Outcome.{accepted}
use Rattle.lists.specs.Rows.{any_of, any_from}
use Rattle.lists.proofs.Outcomes.{bind_inv, same_accepted}
use Rattle.obj.specs.declared.Section.{Section}
use Rattle.obj.specs.declared.Split.{Split}
use Rattle.obj.specs.Nothing.{no_section, no_split}
use Rattle.faults.specs.Faults.{split_misplaced}
use Rattle.tables.specs.Records.{split_before, split_fault}
use Rattle.tables.proofs.Laws.{partial_good, split_good}
use Rattle.splits.specs.Updates.{with_common}
use Rattle.merge.proofs.Tables.{Sound, sound_of, sound_good}
use Rattle.common.specs.Common.{From, nowhere, on, marked, marked_from, common_start, common_of}

-- the places where two splits are the same: all but the flags
record Same (s r : Split) : Type 0 where
  section : r.section ≡ s.section
  start : r.start ≡ s.start
  end : r.end ≡ s.end

module _ (section address : ℕ) where
  abbrev m : Split → Split
  m = marked section address

  marked_same : (s : Split) → Same s (m s)
  unfolding marked
  marked_same s = go (eqb s.section section && leb address s.start)
    where
      go : (b : Bool) → Same s (cond b (with_common s) s)
      go true = record { section = refl; start = refl; end = refl }
      go false = record { section = refl; start = refl; end = refl }

  marked_sound : (lengths : List ℕ) (s : Split) → Sound lengths s → Sound lengths (m s)
  unfolding marked
  marked_sound lengths s q = go (eqb s.section section && leb address s.start)
    where
      go : (b : Bool) → Sound lengths (cond b (with_common s) s)
      go true = record { named = q.named; renamed = q.renamed; aligned = q.aligned; flags = omega (arith, q.flags); start = q.start; end = q.end }
      go false = q

  -- the split before one that is there
  before_same : (rows : List Split) (k : ℕ) → k < length rows → Same (split_before rows k) (split_before (map m rows) k)
  unfolding split_before
  before_same rows zero h = record { section = refl; start = refl; end = refl }
  before_same rows (suc k) h = go (eqb (suc k) 0)
    where
      there : suc k - 1 < length rows
      there = omega arith

      go : (b : Bool) → Same (cond b no_split (get_or rows (suc k - 1) no_split)) (cond b no_split (get_or (map m rows) (suc k - 1) no_split))
      go true = record { section = refl; start = refl; end = refl }
      go false = subst (Same (get_or rows (suc k - 1) no_split)) (sym (get_or-map m rows (suc k - 1) no_split no_split there)) (marked_same (get_or rows (suc k - 1) no_split))

  -- what is asked of a split's place stays as it was
  placed_same : (heads : List Section) (a b s r : Split) → Same a b → Same s r
      → split_misplaced (length heads) (get_or heads s.section no_section) a s ≡ false
      → split_misplaced (length heads) (get_or heads r.section no_section) b r ≡ false
  unfolding split_misplaced any_of any_from
  placed_same heads a b s r p q e = rw (p.section, p.start, q.section, q.start, q.end) e

  module _ (lengths : List ℕ) (heads : List Section) where
    marked_fault : (rows : List Split) (k : ℕ) → k < length rows → split_fault lengths heads rows k ≡ 0 → split_fault lengths heads (map m rows) k ≡ 0
    unfolding split_fault any_of any_from
    marked_fault rows k h e =
        let s : Split = get_or rows k no_split in
        let p = split_good lengths heads rows k e in
        let sound = sound_good lengths (m s) (marked_sound lengths s (sound_of lengths s (partial_good lengths rows k p.0))) in
        let placed = placed_same heads (split_before rows k) (split_before (map m rows) k) s (m s) (before_same rows k h) (marked_same s) p.1 in
        rw (get_or-map m rows k no_split no_split h, sound, placed)

module _ (lengths : List ℕ) (heads : List Section) where
  from_faultless : (from : From) (rows : List Split) → ((k : ℕ) → k < length rows → split_fault lengths heads rows k ≡ 0)
      → (k : ℕ) → k < length (marked_from from rows) → split_fault lengths heads (marked_from from rows) k ≡ 0
  unfolding marked_from
  from_faultless nowhere rows q k h = q k h
  from_faultless (on section address) rows q k h =
      let there : k < length rows = omega (arith, length-map rows (marked section address)) in
      marked_fault section address lengths heads rows k there (q k there)

  -- THEOREM: a split table without a fault has none after common was marked, with a start or without
  pub common_faultless : (given : Bool) (start : ℕ) (bss : List ℕ) (rows out : List Split) → common_of given start bss rows ≡ accepted out
      → ((k : ℕ) → k < length rows → split_fault lengths heads rows k ≡ 0) → (k : ℕ) → k < length out → split_fault lengths heads out k ≡ 0
  unfolding common_of
  common_faultless given start bss rows out e q =
      let p = bind_inv (common_start given start bss rows) _ out e in
      subst (λ (l : List Split). (k : ℕ) → k < length l → split_fault lengths heads l k ≡ 0) (same_accepted p.2) (from_faultless p.0 rows q)

from_length : (from : From) (rows : List Split) → length (marked_from from rows) ≡ length rows
unfolding marked_from
from_length nowhere rows = refl
from_length (on section address) rows = length-map rows (marked section address)

-- THEOREM: as many splits as before
pub common_length : (given : Bool) (start : ℕ) (bss : List ℕ) (rows out : List Split) → common_of given start bss rows ≡ accepted out → length out ≡ length rows
unfolding common_of
common_length given start bss rows out e =
    let p = bind_inv (common_start given start bss rows) _ out e in
    ap (λ (l : List Split). length l) (sym (same_accepted p.2)) ∙ from_length p.0 rows
