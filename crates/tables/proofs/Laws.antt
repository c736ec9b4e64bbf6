-- What a table that passed its checks is: its size and count, and for each kind the facts of every record, over the list of the records.
-- A record of a table that passed has no fault, and `faults` says what such a record is. Assumes nothing.
use Prim.Native.Nat.{ℕ, zero, suc, ◌+◌, ◌-◌, ◌/◌, ◌%◌, ◌<◌, ◌≤◌}
use mathlib.Core.Path.{◌≡◌, refl, sym, ap}
use mathlib.Core.Bool.{Bool, true, false, cond, not}
use mathlib.Core.List.{List}
use mathlib.Core.Logic.{◌⊎◌, ◌≢◌}
use native.Mathlib.Nat.{not-suc-le-zero}
use native.Mathlib.Numerals.{add-one}
use native.Mathlib.Omega.{arith}
use borrow.Author.Tests.{ltb-true, ltb-false, leb-true, leb-false, eqb-true, eqb-false, ne_eqb, not-false, eq-eqb}
use lib.Dec.{eqb, ltb, leb}
use lib.ListN.{length, get_or, take}
use Rattle.lists.specs.Outcome.{accepted}
use Rattle.lists.proofs.First.{first-none, first_le}
use Rattle.lists.proofs.Outcomes.{then_inv, refuse_inv}
use Rattle.lists.proofs.Tests.{none_of, and_false}
use Rattle.align.specs.Align.{bad_align}
use Rattle.obj.specs.declared.Section.{Section}
use Rattle.obj.specs.declared.Symbol.{Symbol}
use Rattle.obj.specs.declared.Reloc.{Reloc}
use Rattle.obj.specs.declared.Split.{Split}
use Rattle.obj.specs.declared.Unit as units
use Rattle.obj.proofs.Order.{not_below_itself, not_below_further}
use Rattle.obj.specs.Nothing.{no_section, no_symbol, no_reloc, no_split, no_unit}
use Rattle.obj.specs.Order.{NotBelow}
use Rattle.faults.specs.Faults.{section_bad, symbol_bad, reloc_bad, split_bad, split_misplaced, unit_bad}
use Rattle.faults.proofs.Laws as record-laws
use Rattle.tables.specs.Tables.{size_check, first_fault, records_check}
use Rattle.tables.specs.Records.{bytes_cut, floor_from, split_before, reloc_fault_above, section_fault, image_fault, symbol_fault, reloc_fault, partial_fault, split_fault, unit_fault}
use Rattle.tables.proofs.Loops.{no_fault, Going, going, goes_on, passes_all}
use Rattle.tables.proofs.Faults.{no_number}
use Rattle.tables.proofs.Floors.{floor_more}

-- ---- a table's size
pub size_passed : (width ceiling size : ℕ) → size_check width ceiling size ≡ accepted tt → (size % width ≡ 0) × (size / width ≤ ceiling)
unfolding size_check
size_passed width ceiling size e =
    let whole = then_inv _ _ _ _ _ _ e in
    let few = then_inv _ _ _ _ _ _ whole.1 in
    (eqb-true _ _ (not-false _ whole.0), ltb-false _ _ few.0)

-- ---- its records, by their faults
module _ (fault : ℕ → ℕ) (n : ℕ) where
  pub records_passed : records_check fault n ≡ accepted tt → (k : ℕ) → k < n → fault k ≡ 0
  unfolding records_check first_fault
  records_passed e k h =
      let at = ltb-false (first_fault fault n) n (refuse_inv _ _ _ _ e) in
      let all : first_fault fault n ≡ n = omega (arith, first_le (λ i. ltb 0 (fault i)) n) in
      omega (arith, ltb-false 0 (fault k) (first-none (λ i. ltb 0 (fault i)) n k all h))

  all_going : ((k : ℕ) → k < n → fault k ≡ 0) → (i : ℕ) → i ≤ n → Going fault n i
  all_going none zero h = going
  all_going none (suc i) h =
      let q : i < n = omega arith in
      let here = none i q in
      rw add-one at (goes_on (all_going none i (omega arith)) q (rw here (no_fault i)))

  pub records_pass : ((k : ℕ) → k < n → fault k ≡ 0) → records_check fault n ≡ accepted tt
  records_pass none = sym (passes_all (all_going none n (omega arith)) (omega arith))

-- a record without a fault: its kind's tests fail
pub section_good : (lengths : List ℕ) (sections : List Section) (k : ℕ) → section_fault lengths sections k ≡ 0
    → section_bad (get_or lengths (get_or sections k no_section).name 0) (get_or sections k no_section) ≡ false
unfolding section_fault
section_good lengths sections k e = no_number 4 _ (omega arith) e

pub image_good : (lengths places : List ℕ) (image : ℕ) (sections : List Section) (k : ℕ) → image_fault lengths places image sections k ≡ 0
    → (bytes_cut places image k (get_or sections k no_section) ≡ false) × (section_fault lengths sections k ≡ 0)
unfolding image_fault
image_good lengths places image sections k e = by_test (bytes_cut places image k (get_or sections k no_section)) e
  where
    by_test : (t : Bool) → cond t 1 (section_fault lengths sections k) ≡ 0 → (t ≡ false) × (section_fault lengths sections k ≡ 0)
    by_test true q = absurd (omega arith)
    by_test false q = (refl, q)

pub symbol_good : (names : ℕ) (sections : List Section) (symbols : List Symbol) (k : ℕ) → symbol_fault names sections symbols k ≡ 0
    → symbol_bad names (length sections) (get_or sections (get_or symbols k no_symbol).section no_section) (get_or symbols k no_symbol) ≡ false
unfolding symbol_fault
symbol_good names sections symbols k e = no_number 5 _ (omega arith) e

pub reloc_good : (sections : List Section) (symbols : ℕ) (relocs : List Reloc) (k : ℕ) → reloc_fault sections symbols relocs k ≡ 0
    → reloc_bad (length sections) symbols (get_or sections (get_or relocs k no_reloc).section no_section)
    (floor_from (get_or relocs k no_reloc).section 0 (take k relocs)) (get_or relocs k no_reloc) ≡ false
unfolding reloc_fault reloc_fault_above
reloc_good sections symbols relocs k e = no_number 6 _ (omega arith) e

pub partial_good : (lengths : List ℕ) (splits : List Split) (k : ℕ) → partial_fault lengths splits k ≡ 0
    → split_bad (get_or lengths (get_or splits k no_split).unit 0) (get_or lengths (get_or splits k no_split).rename 0) (get_or splits k no_split) ≡ false
unfolding partial_fault
partial_good lengths splits k e = no_number 7 _ (omega arith) e

pub split_good : (lengths : List ℕ) (sections : List Section) (splits : List Split) (k : ℕ) → split_fault lengths sections splits k ≡ 0
    → (partial_fault lengths splits k ≡ 0)
    × (split_misplaced (length sections) (get_or sections (get_or splits k no_split).section no_section) (split_before splits k) (get_or splits k no_split) ≡ false)
unfolding split_fault partial_fault
split_good lengths sections splits k e =
    let neither = no_number 7 _ (omega arith) e in
    (ap (λ (t : Bool). cond t 7 0) (none_of _ 0 neither), none_of _ 1 neither)

pub unit_good : (lengths : List ℕ) (us : List units.Unit) (k : ℕ) → unit_fault lengths us k ≡ 0
    → unit_bad (get_or lengths (get_or us k no_unit).name 0) (get_or us k no_unit) ≡ false
unfolding unit_fault
unit_good lengths us k e = no_number 8 _ (omega arith) e

-- ---- sections
module _ (lengths : List ℕ) (sections : List Section) (n : ℕ) (passed : records_check (section_fault lengths sections) n ≡ accepted tt) where
  good_section : (k : ℕ) → k < n → section_bad (get_or lengths (get_or sections k no_section).name 0) (get_or sections k no_section) ≡ false
  good_section k h = section_good lengths sections k (records_passed (section_fault lengths sections) n passed k h)

  pub sections_end : (k : ℕ) → k < n → (get_or sections k no_section).address + (get_or sections k no_section).size ≤ 4026531840
  sections_end k h = record-laws.section_end _ _ (good_section k h)

  pub sections_kind : (k : ℕ) → k < n → (get_or sections k no_section).kind ≤ 3
  sections_kind k h = record-laws.section_kind _ _ (good_section k h)

  pub sections_named : (k : ℕ) → k < n
      → (0 < get_or lengths (get_or sections k no_section).name 0) × (get_or lengths (get_or sections k no_section).name 0 ≤ 64)
  sections_named k h = record-laws.section_named _ _ (good_section k h)

-- ---- sections with bytes in an image
module _ (lengths places : List ℕ) (image : ℕ) (sections : List Section) (n : ℕ)
    (passed : records_check (image_fault lengths places image sections) n ≡ accepted tt) where
  good_image : (k : ℕ) → k < n → (bytes_cut places image k (get_or sections k no_section) ≡ false) × (section_fault lengths sections k ≡ 0)
  good_image k h = image_good lengths places image sections k (records_passed (image_fault lengths places image sections) n passed k h)

  -- they have no fault as sections
  pub image_sections : records_check (section_fault lengths sections) n ≡ accepted tt
  image_sections = records_pass (section_fault lengths sections) n (λ k h. (good_image k h).1)

  -- the bytes of a section lie in the image
  pub image_bytes : (k : ℕ) → k < n → (get_or sections k no_section).kind ≢ 3
      → (k < length places) × (get_or places k 0 + (get_or sections k no_section).size ≤ image)
  unfolding bytes_cut
  image_bytes k h bytes =
      let neither = and_false _ _ (good_image k h).0 (ap not (ne_eqb _ 3 bytes)) in
      (leb-false _ _ (none_of _ 0 neither), ltb-false _ _ (none_of _ 1 neither))

-- ---- symbols
module _ (names : ℕ) (sections : List Section) (symbols : List Symbol) (n : ℕ)
    (passed : records_check (symbol_fault names sections symbols) n ≡ accepted tt) where
  good_symbol : (k : ℕ) → k < n
      → symbol_bad names (length sections) (get_or sections (get_or symbols k no_symbol).section no_section) (get_or symbols k no_symbol) ≡ false
  good_symbol k h = symbol_good names sections symbols k (records_passed (symbol_fault names sections symbols) n passed k h)

  pub symbols_section : (k : ℕ) → k < n → (get_or symbols k no_symbol).section ≢ 65535 → (get_or symbols k no_symbol).section < length sections
  symbols_section k h = record-laws.symbol_section _ _ _ _ (good_symbol k h)

  -- it has no section, or lies in a known one
  pub symbols_home : (k : ℕ) → k < n → let s = get_or symbols k no_symbol in let home = get_or sections s.section no_section in
      (s.section ≡ 65535) ⊎ ((s.section < length sections) × (home.address ≤ s.address) × (s.address ≤ home.address + home.size))
  symbols_home k h = record-laws.symbol_home _ _ _ _ (good_symbol k h)

  pub symbols_name : (k : ℕ) → k < n → (get_or symbols k no_symbol).name < names
  symbols_name k h = record-laws.symbol_name _ _ _ _ (good_symbol k h)

  pub symbols_kind : (k : ℕ) → k < n → (get_or symbols k no_symbol).kind ≤ 3
  symbols_kind k h = record-laws.symbol_kind _ _ _ _ (good_symbol k h)

  pub symbols_size_known : (k : ℕ) → k < n → (get_or symbols k no_symbol).size_known ≤ 1
  symbols_size_known k h = record-laws.symbol_size_known _ _ _ _ (good_symbol k h)

  pub symbols_end : (k : ℕ) → k < n → (get_or symbols k no_symbol).address + (get_or symbols k no_symbol).size ≤ 4026531840
  symbols_end k h = record-laws.symbol_end _ _ _ _ (good_symbol k h)

  pub symbols_aligned : (k : ℕ) → k < n → bad_align (get_or symbols k no_symbol).alignment ≡ false
  symbols_aligned k h = record-laws.symbol_aligned _ _ _ _ (good_symbol k h)

-- ---- relocations
module _ (sections : List Section) (symbols : ℕ) (relocs : List Reloc) (n : ℕ)
    (passed : records_check (reloc_fault sections symbols relocs) n ≡ accepted tt) where
  good_reloc : (k : ℕ) → k < n
      → reloc_bad (length sections) symbols (get_or sections (get_or relocs k no_reloc).section no_section)
      (floor_from (get_or relocs k no_reloc).section 0 (take k relocs)) (get_or relocs k no_reloc) ≡ false
  good_reloc k h = reloc_good sections symbols relocs k (records_passed (reloc_fault sections symbols relocs) n passed k h)

  pub relocs_kind : (k : ℕ) → k < n → (get_or relocs k no_reloc).kind ≤ 6
  relocs_kind k h = record-laws.reloc_kind _ _ _ _ _ (good_reloc k h)

  pub relocs_section : (k : ℕ) → k < n → (get_or relocs k no_reloc).section < length sections
  relocs_section k h = record-laws.reloc_section _ _ _ _ _ (good_reloc k h)

  pub relocs_target : (k : ℕ) → k < n → (get_or relocs k no_reloc).target < symbols
  relocs_target k h = record-laws.reloc_target _ _ _ _ _ (good_reloc k h)

  pub relocs_fours : (k : ℕ) → k < n → (get_or relocs k no_reloc).address % 4 ≡ 0
  relocs_fours k h = record-laws.reloc_fours _ _ _ _ _ (good_reloc k h)

  pub relocs_inside : (k : ℕ) → k < n → let r = get_or relocs k no_reloc in let home = get_or sections r.section no_section in
      (home.address ≤ r.address) × (r.address < home.address + home.size)
  relocs_inside k h = record-laws.reloc_inside _ _ _ _ _ (good_reloc k h)

  -- the floor of a section lies above each of its relocations so far
  below_floor : n ≤ length relocs → (j i : ℕ) → j ≤ n → i < j
      → (get_or relocs i no_reloc).address < floor_from (get_or relocs i no_reloc).section 0 (take j relocs)
  below_floor few zero i h q = absurd (not-suc-le-zero q)
  below_floor few (suc j) i h q =
      rw (floor_more (get_or relocs i no_reloc).section relocs j (omega arith))
      (by_test (eqb (get_or relocs j no_reloc).section (get_or relocs i no_reloc).section) refl (below_floor few j i (omega arith)))
    where
      by_test : (t : Bool) → eqb (get_or relocs j no_reloc).section (get_or relocs i no_reloc).section ≡ t
          → (i < j → (get_or relocs i no_reloc).address < floor_from (get_or relocs i no_reloc).section 0 (take j relocs))
          → (get_or relocs i no_reloc).address < cond t (suc (get_or relocs j no_reloc).address) (floor_from (get_or relocs i no_reloc).section 0 (take j relocs))
      by_test true e before = by_place (ltb i j) refl
        where
          by_place : (t : Bool) → ltb i j ≡ t → (get_or relocs i no_reloc).address < suc (get_or relocs j no_reloc).address
          by_place true p =
              let above = record-laws.reloc_above _ _ _ _ _ (good_reloc j (omega arith)) in
              let same = ap (λ (s : ℕ). floor_from s 0 (take j relocs)) (eqb-true (get_or relocs j no_reloc).section (get_or relocs i no_reloc).section e) in
              omega (arith, before (ltb-true i j p))
          by_place false p = let at : i ≡ j = omega (arith, ltb-false i j p) in rw at (omega arith)
      by_test false e before =
          let other = eqb-false _ _ e in
          let apart : i ≡ j → ⊥ = λ p. other (ap (λ (m : ℕ). (get_or relocs m no_reloc).section) (sym p)) in
          before (omega arith)

  -- within one section the addresses rise
  pub relocs_rise : n ≤ length relocs → (i j : ℕ) → i < j → j < n → (get_or relocs i no_reloc).section ≡ (get_or relocs j no_reloc).section
      → (get_or relocs i no_reloc).address < (get_or relocs j no_reloc).address
  relocs_rise few i j q h e =
      let above = record-laws.reloc_above _ _ _ _ _ (good_reloc j h) in
      let same = ap (λ (s : ℕ). floor_from s 0 (take j relocs)) e in
      omega (arith, below_floor few j i (omega arith) q)

-- ---- splits of a record file, or of a partial list
module _ (lengths : List ℕ) (splits : List Split) (n : ℕ) (passed : records_check (partial_fault lengths splits) n ≡ accepted tt) where
  good_partial : (k : ℕ) → k < n
      → split_bad (get_or lengths (get_or splits k no_split).unit 0) (get_or lengths (get_or splits k no_split).rename 0) (get_or splits k no_split) ≡ false
  good_partial k h = partial_good lengths splits k (records_passed (partial_fault lengths splits) n passed k h)

  pub partials_named : (k : ℕ) → k < n → 0 < get_or lengths (get_or splits k no_split).unit 0
  partials_named k h = record-laws.split_named _ _ _ (good_partial k h)

  pub partials_renamed : (k : ℕ) → k < n → (get_or splits k no_split).rename ≢ 65535 → 0 < get_or lengths (get_or splits k no_split).rename 0
  partials_renamed k h = record-laws.split_renamed _ _ _ (good_partial k h)

  pub partials_aligned : (k : ℕ) → k < n → bad_align (get_or splits k no_split).alignment ≡ false
  partials_aligned k h = record-laws.split_aligned _ _ _ (good_partial k h)

  pub partials_flags : (k : ℕ) → k < n → (get_or splits k no_split).flags ≤ 7
  partials_flags k h = record-laws.split_flags _ _ _ (good_partial k h)

  pub partials_start : (k : ℕ) → k < n → (get_or splits k no_split).start ≤ 4026531840
  partials_start k h = record-laws.split_start _ _ _ (good_partial k h)

  pub partials_end : (k : ℕ) → k < n → (get_or splits k no_split).end ≤ 4026531840
  partials_end k h = record-laws.split_end _ _ _ (good_partial k h)

-- ---- splits of a stage table
before_next : (splits : List Split) (k : ℕ) → split_before splits (suc k) ≡ get_or splits k no_split
unfolding split_before
before_next splits k = rw (ne_eqb (suc k) 0 (λ e. omega arith)) (ap (λ (i : ℕ). get_or splits i no_split) (let e : suc k - 1 ≡ k = omega arith in e))

module _ (lengths : List ℕ) (sections : List Section) (splits : List Split) (n : ℕ)
    (passed : records_check (split_fault lengths sections splits) n ≡ accepted tt) where
  good_split : (k : ℕ) → k < n
      → (partial_fault lengths splits k ≡ 0)
      × (split_misplaced (length sections) (get_or sections (get_or splits k no_split).section no_section) (split_before splits k) (get_or splits k no_split) ≡ false)
  good_split k h = split_good lengths sections splits k (records_passed (split_fault lengths sections splits) n passed k h)

  -- they have no fault as splits of a record file: the laws of those hold too
  pub splits_partials : records_check (partial_fault lengths splits) n ≡ accepted tt
  splits_partials = records_pass (partial_fault lengths splits) n (λ k h. (good_split k h).0)

  pub splits_section : (k : ℕ) → k < n → (get_or splits k no_split).section < length sections
  splits_section k h = record-laws.split_section _ _ _ _ (good_split k h).1

  pub splits_in_section : (k : ℕ) → k < n → let s = get_or splits k no_split in let home = get_or sections s.section no_section in
      s.end ≤ home.address + home.size
  splits_in_section k h = record-laws.split_in_section _ _ _ _ (good_split k h).1

  -- neighbours: sections do not fall, nor starts in one section
  pub splits_next : (k : ℕ) → suc k < n → NotBelow (get_or splits k no_split) (get_or splits (suc k) no_split)
  splits_next k h =
      let after = rw (before_next splits k) at (record-laws.split_after _ _ _ _ (good_split (suc k) h).1) in
      record { sections = after.0; starts = after.1 }

  -- and so for any two
  pub splits_rise : (i j : ℕ) → i ≤ j → j < n → NotBelow (get_or splits i no_split) (get_or splits j no_split)
  splits_rise i zero q h = let e : i ≡ 0 = omega arith in rw e (not_below_itself (get_or splits 0 no_split))
  splits_rise i (suc j) q h = by_place (leb i j) refl (λ p. splits_rise i j p (omega arith))
    where
      by_place : (t : Bool) → leb i j ≡ t → (i ≤ j → NotBelow (get_or splits i no_split) (get_or splits j no_split))
          → NotBelow (get_or splits i no_split) (get_or splits (suc j) no_split)
      by_place true p before = not_below_further _ _ _ (before (leb-true i j p)) (splits_next j h)
      by_place false p before = let e : i ≡ suc j = omega (arith, leb-false i j p) in rw e (not_below_itself (get_or splits (suc j) no_split))

-- ---- units
module _ (lengths : List ℕ) (us : List units.Unit) (n : ℕ) (passed : records_check (unit_fault lengths us) n ≡ accepted tt) where
  good_unit : (k : ℕ) → k < n → unit_bad (get_or lengths (get_or us k no_unit).name 0) (get_or us k no_unit) ≡ false
  good_unit k h = unit_good lengths us k (records_passed (unit_fault lengths us) n passed k h)

  pub units_named : (k : ℕ) → k < n → 0 < get_or lengths (get_or us k no_unit).name 0
  units_named k h = record-laws.unit_named _ _ (good_unit k h)

  pub units_answers : (k : ℕ) → k < n → ((get_or us k no_unit).autogenerated ≤ 1) × ((get_or us k no_unit).has_order ≤ 1)
  units_answers k h = record-laws.unit_answers _ _ (good_unit k h)

-- of a section of kind 3 no bytes are asked: whatever its place and size, and whatever the image, it isn't cut
pub bss_not_cut : (places : List ℕ) (image k : ℕ) (s : Section) → s.kind ≡ 3 → bytes_cut places image k s ≡ false
unfolding bytes_cut
bss_not_cut places image k s e = rw (eq-eqb s.kind 3 e)
