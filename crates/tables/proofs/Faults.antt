-- The fault of one record, as the code finds it: the record at its place, what is looked up for it, its kind's test, and the number that the
-- test gives. Each law joins what these calls answer to the definition. Assumes nothing.
use Prim.Native.Nat.{ℕ, ◌*◌, ◌+◌, ◌/◌, ◌<◌, ◌≤◌}
use mathlib.Core.Path.{◌≡◌, refl, sym, ap, ◌∙◌}
use mathlib.Core.Bool.{Bool, true, false, not, ◌&&◌, ◌||◌}
use mathlib.Core.List.{List}
use native.Mathlib.Nat.{zero-add}
use native.Mathlib.Omega.{arith}
use lib.Dec.{eqb, ltb, leb}
use lib.ListN.{length, get_or, length-map, get_or-eq_default}
use Rattle.lists.specs.Rows.{any_of}
use Rattle.lists.proofs.Rows.{get_d_tabulate, length-tabulate}
use Rattle.fields.specs.Fields.{le32}
use Rattle.obj.specs.declared.Section.{Section}
use Rattle.obj.specs.declared.Symbol.{Symbol}
use Rattle.obj.specs.declared.Reloc.{Reloc}
use Rattle.obj.specs.declared.Split.{Split}
use Rattle.obj.specs.declared.Unit as units
use Rattle.obj.specs.Records.{section_at, symbol_at, partial_at, partial_numbered, split_at, unit_at}
use Rattle.obj.specs.Nothing.{no_section, no_symbol, no_split, no_unit}
use Rattle.faults.specs.Faults.{section_bad, symbol_bad, reloc_bad, split_bad, split_misplaced, unit_bad}
use Rattle.tables.specs.Records.{sections_in, symbols_in, partials_in, splits_in, units_in, numbered, image_places_of, bytes_cut, split_before, reloc_fault_above, section_fault, image_fault, symbol_fault, partial_fault, split_fault, unit_fault}
use Rattle.tables.proofs.Lookups.{found, partial_is}

-- no number was given: the test failed
pub no_number : (number : ℕ) (test : Bool) → 0 < number → numbered number test ≡ 0 → test ≡ false
no_number number true h e = absurd (omega arith)
no_number number false h e = refl

-- ---- sections
pub length-image_places : (b : List ℕ) → length (image_places_of b) ≡ length b / 4
unfolding image_places_of
length-image_places b = length-tabulate (λ k. le32 b (4 * k)) 0 (length b / 4)

module _ (b : List ℕ) (k : ℕ) where
  pub image_place_here : k < length b / 4 → {r : ℕ} → r ≡ le32 b (4 * k) → r ≡ get_or (image_places_of b) k 0
  unfolding image_places_of
  image_place_here h e =
      e ∙ sym (get_d_tabulate (λ i. le32 b (4 * i)) 0 (length b / 4) k 0 h ∙ ap (λ (i : ℕ). le32 b (4 * i)) (zero-add k))

  pub image_place_past : length b / 4 ≤ k → 0 ≡ get_or (image_places_of b) k 0
  image_place_past h = sym (get_or-eq_default (image_places_of b) 0 (rw length-image_places h))

  pub bytes_cut_is : (image : ℕ) (s : Section) {start : ℕ} → start ≡ get_or (image_places_of b) k 0
      → (not (eqb s.kind 3) && (leb (length b / 4) k || ltb image (start + s.size))) ≡ bytes_cut (image_places_of b) image k s
  unfolding bytes_cut any_of
  bytes_cut_is image s e = rw (e, length-image_places)

-- a partial split's fault does not depend on its number
same_fault : (lengths b : List ℕ) (at origin k : ℕ) → let s = partial_at origin b at in let t = partial_numbered b k at in
    split_bad (get_or lengths s.unit 0) (get_or lengths s.rename 0) s ≡ split_bad (get_or lengths t.unit 0) (get_or lengths t.rename 0) t
unfolding partial_at partial_numbered split_bad
same_fault lengths b at origin k = refl

module _ (lengths b places : List ℕ) (k : ℕ) (h : k < length places) where
  pub section_fault_is : {s : Section} {len r : ℕ} {bad : Bool} → s ≡ section_at b (get_or places k 0) → len ≡ get_or lengths s.name 0
      → bad ≡ section_bad len s → r ≡ numbered 4 bad → r ≡ section_fault lengths (sections_in b places) k
  unfolding section_fault
  section_fault_is s len bad r = let e = found (section_at b) places k no_section h s in rw (r, bad, len, e)

  -- ---- splits of a record file
  pub partial_fault_is : (origin : ℕ) {s : Split} {unit_len rename_len r : ℕ} {bad : Bool} → s ≡ partial_at origin b (get_or places k 0)
      → unit_len ≡ get_or lengths s.unit 0 → rename_len ≡ get_or lengths s.rename 0 → bad ≡ split_bad unit_len rename_len s → r ≡ numbered 7 bad
      → r ≡ partial_fault lengths (partials_in b places) k
  unfolding partial_fault
  partial_fault_is origin s unit_len rename_len bad r =
      let e = partial_is b places k h in rw (r, bad, unit_len, rename_len, s, e) (ap (numbered 7) (same_fault lengths b (get_or places k 0) origin k))

  -- ---- units
  pub unit_fault_is : {u : units.Unit} {len r : ℕ} {bad : Bool} → u ≡ unit_at b (get_or places k 0) → len ≡ get_or lengths u.name 0
      → bad ≡ unit_bad len u → r ≡ numbered 8 bad → r ≡ unit_fault lengths (units_in b places) k
  unfolding unit_fault
  unit_fault_is u len bad r = let e = found (unit_at b) places k no_unit h u in rw (r, bad, len, e)

-- the bytes first, then the record
module _ (lengths places : List ℕ) (image : ℕ) (b at : List ℕ) (k : ℕ) (h : k < length at) where
  pub image_cut : {s : Section} {cut : Bool} → s ≡ section_at b (get_or at k 0) → cut ≡ bytes_cut places image k s → cut ≡ true
      → 1 ≡ image_fault lengths places image (sections_in b at) k
  unfolding image_fault
  image_cut s cut t = let e = found (section_at b) at k no_section h s in rw (← e, ← cut, t)

  pub image_whole : {s : Section} {cut : Bool} {r : ℕ} → s ≡ section_at b (get_or at k 0) → cut ≡ bytes_cut places image k s → cut ≡ false
      → r ≡ section_fault lengths (sections_in b at) k → r ≡ image_fault lengths places image (sections_in b at) k
  unfolding image_fault
  image_whole s cut t r = let e = found (section_at b) at k no_section h s in rw (← e, ← cut, t) r

-- ---- symbols
module _ (names : ℕ) (heads at b places : List ℕ) (k : ℕ) (h : k < length places) where
  pub symbol_fault_is : {s : Symbol} {home : Section} {r : ℕ} {bad : Bool} → s ≡ symbol_at b (get_or places k 0)
      → home ≡ get_or (sections_in heads at) s.section no_section → bad ≡ symbol_bad names (length at) home s → r ≡ numbered 5 bad
      → r ≡ symbol_fault names (sections_in heads at) (symbols_in b places) k
  unfolding symbol_fault
  symbol_fault_is s home bad r =
      let e = found (symbol_at b) places k no_symbol h s in rw (r, bad, home, e, length-map at (section_at heads))

-- ---- splits of a stage table
module _ (lengths heads at b places : List ℕ) (k : ℕ) (h : k < length places) where
  pub split_fault_is : {s before : Split} {home : Section} {unit_len rename_len r : ℕ} {bad misplaced : Bool} → s ≡ split_at b (get_or places k 0)
      → unit_len ≡ get_or lengths s.unit 0 → rename_len ≡ get_or lengths s.rename 0 → home ≡ get_or (sections_in heads at) s.section no_section
      → before ≡ split_before (splits_in b places) k → bad ≡ split_bad unit_len rename_len s → misplaced ≡ split_misplaced (length at) home before s
      → r ≡ numbered 7 (bad || misplaced) → r ≡ split_fault lengths (sections_in heads at) (splits_in b places) k
  unfolding split_fault any_of
  split_fault_is s unit_len rename_len home before bad misplaced r =
      let e = found (split_at b) places k no_split h s in
      rw (r, misplaced, bad, before, home, unit_len, rename_len, e, length-map at (section_at heads))

-- ---- relocations
pub reloc_fault_is : (heads at : List ℕ) (symbols : ℕ) (floors : List ℕ) (r : Reloc) {home : Section} {floor n : ℕ} {bad : Bool}
    → home ≡ get_or (sections_in heads at) r.section no_section → floor ≡ get_or floors r.section 0
    → bad ≡ reloc_bad (length at) symbols home floor r → n ≡ numbered 6 bad
    → n ≡ reloc_fault_above (sections_in heads at) symbols (get_or floors r.section 0) r
unfolding reloc_fault_above
reloc_fault_is heads at symbols floors r home floor bad n = rw (n, bad, home, floor, length-map at (section_at heads))
