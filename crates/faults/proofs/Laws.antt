-- What a record without a fault is, a law for each rule of document 01, Tables, 4 to 8: where none of a kind's tests holds, each fails by itself.
-- Assumes nothing.
use Prim.Native.Nat.{ℕ, ◌+◌, ◌%◌, ◌<◌, ◌≤◌}
use mathlib.Core.Path.{◌≡◌, refl, sym, ap}
use mathlib.Core.Bool.{Bool, true, false, not}
use mathlib.Core.Logic.{◌⊎◌, inl, inr, ◌≢◌}
use native.Mathlib.Omega.{arith}
use borrow.Author.Tests.{ltb-false, leb-false, eqb-true, eqb-false, eq-eqb, ne_eqb, not-false}
use lib.Dec.{eqb}
use Rattle.lists.proofs.Tests.{none_of, and_false}
use Rattle.align.specs.Align.{bad_align}
use Rattle.obj.specs.declared.Section.{Section}
use Rattle.obj.specs.declared.Symbol.{Symbol}
use Rattle.obj.specs.declared.Reloc.{Reloc}
use Rattle.obj.specs.declared.Split.{Split}
use Rattle.obj.specs.declared.Unit as units
use Rattle.faults.specs.Faults.{section_bad, symbol_bad, reloc_bad, split_bad, split_misplaced, unit_bad}

-- a length that is not 0
above_none : (n : ℕ) → eqb n 0 ≡ false → 0 < n
above_none n e = let h : n ≡ 0 → ⊥ = eqb-false n 0 e in omega arith

-- what is asked only where the number is not the one that means none
asked : (n none : ℕ) → n ≢ none → not (eqb n none) ≡ true
asked n none h = ap not (ne_eqb n none h)

-- ---- 4 section
module _ (len : ℕ) (s : Section) (good : section_bad len s ≡ false) where
  pub section_end : s.address + s.size ≤ 4026531840
  unfolding section_bad
  section_end = ltb-false _ _ (none_of _ 0 good)

  pub section_kind : s.kind ≤ 3
  unfolding section_bad
  section_kind = ltb-false _ _ (none_of _ 1 good)

  pub section_named : (0 < len) × (len ≤ 64)
  unfolding section_bad
  section_named = (above_none len (none_of _ 2 good), ltb-false _ _ (none_of _ 3 good))

-- ---- 5 symbol
module _ (names sections : ℕ) (home : Section) (s : Symbol) (good : symbol_bad names sections home s ≡ false) where
  -- a symbol that has a section
  pub symbol_section : s.section ≢ 65535 → s.section < sections
  unfolding symbol_bad
  symbol_section h = leb-false _ _ (and_false _ _ (none_of _ 0 good) (asked _ 65535 h))

  pub symbol_start : s.section ≢ 65535 → home.address ≤ s.address
  unfolding symbol_bad
  symbol_start h = ltb-false _ _ (and_false _ _ (none_of _ 4 good) (asked _ 65535 h))

  pub symbol_before_end : s.section ≢ 65535 → s.address ≤ home.address + home.size
  unfolding symbol_bad
  symbol_before_end h = ltb-false _ _ (and_false _ _ (none_of _ 5 good) (asked _ 65535 h))

  -- it has none, or lies in a known one
  pub symbol_home : (s.section ≡ 65535) ⊎ ((s.section < sections) × (home.address ≤ s.address) × (s.address ≤ home.address + home.size))
  symbol_home = by_test (eqb s.section 65535) refl
    where
      by_test : (t : Bool) → eqb s.section 65535 ≡ t
          → (s.section ≡ 65535) ⊎ ((s.section < sections) × (home.address ≤ s.address) × (s.address ≤ home.address + home.size))
      by_test true e = inl (eqb-true s.section 65535 e)
      by_test false e = let h = eqb-false s.section 65535 e in inr (symbol_section h, symbol_start h, symbol_before_end h)

  pub symbol_name : s.name < names
  unfolding symbol_bad
  symbol_name = leb-false _ _ (none_of _ 1 good)

  pub symbol_kind : s.kind ≤ 3
  unfolding symbol_bad
  symbol_kind = ltb-false _ _ (none_of _ 2 good)

  pub symbol_size_known : s.size_known ≤ 1
  unfolding symbol_bad
  symbol_size_known = ltb-false _ _ (none_of _ 3 good)

  pub symbol_end : s.address + s.size ≤ 4026531840
  unfolding symbol_bad
  symbol_end = ltb-false _ _ (none_of _ 6 good)

  pub symbol_aligned : bad_align s.alignment ≡ false
  unfolding symbol_bad
  symbol_aligned = none_of _ 7 good

-- ---- 6 relocation
module _ (sections symbols : ℕ) (home : Section) (floor : ℕ) (r : Reloc) (good : reloc_bad sections symbols home floor r ≡ false) where
  pub reloc_kind : r.kind ≤ 6
  unfolding reloc_bad
  reloc_kind = ltb-false _ _ (none_of _ 0 good)

  pub reloc_section : r.section < sections
  unfolding reloc_bad
  reloc_section = leb-false _ _ (none_of _ 1 good)

  pub reloc_target : r.target < symbols
  unfolding reloc_bad
  reloc_target = leb-false _ _ (none_of _ 2 good)

  pub reloc_fours : r.address % 4 ≡ 0
  unfolding reloc_bad
  reloc_fours = eqb-true _ _ (not-false _ (none_of _ 3 good))

  pub reloc_inside : (home.address ≤ r.address) × (r.address < home.address + home.size)
  unfolding reloc_bad
  reloc_inside = (ltb-false _ _ (none_of _ 4 good), leb-false _ _ (none_of _ 5 good))

  pub reloc_above : floor ≤ r.address
  unfolding reloc_bad
  reloc_above = ltb-false _ _ (none_of _ 6 good)

-- ---- 7 split
module _ (unit_len rename_len : ℕ) (s : Split) (good : split_bad unit_len rename_len s ≡ false) where
  pub split_named : 0 < unit_len
  unfolding split_bad
  split_named = above_none unit_len (none_of _ 0 good)

  pub split_renamed : s.rename ≢ 65535 → 0 < rename_len
  unfolding split_bad
  split_renamed h = above_none rename_len (and_false _ _ (none_of _ 1 good) (asked _ 65535 h))

  pub split_aligned : bad_align s.alignment ≡ false
  unfolding split_bad
  split_aligned = none_of _ 2 good

  pub split_flags : s.flags ≤ 7
  unfolding split_bad
  split_flags = ltb-false _ _ (none_of _ 3 good)

  pub split_start : s.start ≤ 4026531840
  unfolding split_bad
  split_start = ltb-false _ _ (none_of _ 4 good)

  pub split_end : s.end ≤ 4026531840
  unfolding split_bad
  split_end = ltb-false _ _ (none_of _ 5 good)

-- ---- 7 split, "in stage tables also"
module _ (sections : ℕ) (home : Section) (before s : Split) (good : split_misplaced sections home before s ≡ false) where
  pub split_section : s.section < sections
  unfolding split_misplaced
  split_section = leb-false _ _ (none_of _ 0 good)

  pub split_in_section : s.end ≤ home.address + home.size
  unfolding split_misplaced
  split_in_section = ltb-false _ _ (none_of _ 1 good)

  -- its section does not fall, and in one section its start does not
  pub split_after : (before.section ≤ s.section) × (before.section ≡ s.section → before.start ≤ s.start)
  unfolding split_misplaced
  split_after =
      (ltb-false _ _ (none_of _ 2 good), λ e. ltb-false _ _ (and_false _ _ (none_of _ 3 good) (eq-eqb _ _ (sym e))))

-- ---- 8 unit
module _ (len : ℕ) (u : units.Unit) (good : unit_bad len u ≡ false) where
  pub unit_named : 0 < len
  unfolding unit_bad
  unit_named = above_none len (none_of _ 0 good)

  -- its yes-or-no bytes
  pub unit_answers : (u.autogenerated ≤ 1) × (u.has_order ≤ 1)
  unfolding unit_bad
  unit_answers = (ltb-false _ _ (none_of _ 1 good), ltb-false _ _ (none_of _ 2 good))
