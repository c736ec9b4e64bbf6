-- What a record whose number is 0 is: its head and payload lie in the file, its kind is known, and none of its kind's faults holds. Each test
-- of a chain that ends in 0 failed. Assumes nothing.
use Prim.Native.Nat.{ℕ, ◌+◌, ◌<◌, ◌≤◌}
use mathlib.Core.Path.{◌≡◌, refl, sym, ap₂, subst, ◌∙◌}
use mathlib.Core.Bool.{Bool, true, false, cond, not}
use mathlib.Core.List.{List}
use native.Mathlib.Omega.{arith}
use borrow.Author.Tests.{ltb-false, leb-false, eqb-true, not-false}
use lib.Dec.{eqb, ltb, leb}
use lib.ListN.{length, get_or, take, drop}
use Rattle.fields.specs.Fields.{le16, le32}
use Rattle.obj.specs.Records.{section_at, symbol_at, reloc_at, partial_at, unit_at, partial_width}
use Rattle.obj.specs.Nothing.{no_section}
use Rattle.names.specs.Names.{name_bad}
use Rattle.faults.specs.Faults.{section_bad, symbol_bad, reloc_bad, split_bad, unit_bad}
use Rattle.tables.specs.declared.Counts.{Counts as Ceilings}
use Rattle.tables.specs.Records.{sections_in, relocs_in, floor_from}
use Rattle.load.specs.Load.{Loaded, repeated, name_number, section_length, section_number, symbol_number, reloc_number, split_number, unit_number, kind_number, record_number}

-- "1, 2, then its kind's number": none of the three
pub record Faultless (wrong full bad : Bool) : Type 0 where
  pub length_right : wrong ≡ false
  pub room : full ≡ false
  pub good : bad ≡ false

faultless : (wrong full bad : Bool) (number : ℕ) → 0 < number → cond wrong 1 (cond full 2 (cond bad number 0)) ≡ 0 → Faultless wrong full bad
faultless true full bad number h e = absurd (omega arith)
faultless false true bad number h e = absurd (omega arith)
faultless false false true number h e = absurd (omega arith)
faultless false false false number h e = record { length_right = refl; room = refl; good = refl }

-- a length other than the kind's
right_length : (len width : ℕ) → not (eqb len width) ≡ false → len ≡ width
right_length len width e = eqb-true len width (not-false (eqb len width) e)

-- a section's payload holds its head
pub section_long : (file : List ℕ) (at len : ℕ) → section_length file at len ≡ false → 15 ≤ len
unfolding section_length
section_long file at len e = by_test (ltb len 15) refl e
  where
    by_test : (b : Bool) → ltb len 15 ≡ b
        → cond b true (cond (eqb (section_at file at).kind 3) (not (eqb len 15)) (not (eqb len (15 + (section_at file at).size)))) ≡ false → 15 ≤ len
    by_test true p q = absurd (let z : ◌≡◌ {A = ℕ} 0 1 = cc in omega arith)
    by_test false p q = ltb-false len 15 p

module _ (c : Ceilings) (file : List ℕ) (at len : ℕ) (t : Loaded) where
  -- ---- a record of each kind that has no fault

  -- a name that is not there yet
  pub record NewName : Type 0 where
    pub new : repeated c file at len t ≡ false
    pub room : length t.names < c.names
    pub good : name_bad (take len (drop at file)) ≡ false

  pub record PassedSection : Type 0 where
    pub long : 15 ≤ len
    pub room : length t.sections < c.sections
    pub good : section_bad (get_or t.lengths (section_at file at).name 0) (section_at file at) ≡ false

  pub record PassedSymbol : Type 0 where
    pub long : len ≡ 20
    pub room : length t.symbols < c.symbols
    pub good :
        symbol_bad (length t.names) (length t.sections) (get_or (sections_in file t.sections) (symbol_at file at).section no_section) (symbol_at file at)
        ≡ false

  pub record PassedReloc : Type 0 where
    pub long : len ≡ 23
    pub room : length t.relocations < c.relocations
    pub good :
        reloc_bad (length t.sections) (length t.symbols) (get_or (sections_in file t.sections) (reloc_at file at).section no_section)
        (floor_from (reloc_at file at).section 0 (relocs_in file t.relocations)) (reloc_at file at)
        ≡ false

  pub record PassedSplit : Type 0 where
    pub long : len ≡ partial_width
    pub room : length t.splits < c.splits
    pub good : split_bad (get_or t.lengths (partial_at 65535 file at).unit 0) (get_or t.lengths (partial_at 65535 file at).rename 0) (partial_at 65535 file at) ≡ false

  pub record PassedUnit : Type 0 where
    pub long : len ≡ 8
    pub room : length t.units < c.units
    pub good : unit_bad (get_or t.lengths (unit_at file at).name 0) (unit_at file at) ≡ false

  -- a name that is new, where it is not repeated
  pub name_passed : name_number c file at len t ≡ 0 → repeated c file at len t ≡ false → NewName
  unfolding name_number
  name_passed e new =
      let q : ◌≡◌ {A = ℕ} (cond (leb c.names (length t.names)) 2 (cond (name_bad (take len (drop at file))) 3 0)) 0 = rw new at e in
      let f = faultless false (leb c.names (length t.names)) (name_bad (take len (drop at file))) 3 (omega arith) q in
      record { new = new; room = leb-false c.names (length t.names) f.room; good = f.good }

  section_passed : section_number c file at len t ≡ 0 → PassedSection
  unfolding section_number
  section_passed e =
      let f = faultless (section_length file at len) (leb c.sections (length t.sections))
      (section_bad (get_or t.lengths (section_at file at).name 0) (section_at file at)) 4 (omega arith) e in
      record { long = section_long file at len f.length_right; room = leb-false c.sections (length t.sections) f.room; good = f.good }

  symbol_passed : symbol_number c file at len t ≡ 0 → PassedSymbol
  unfolding symbol_number
  symbol_passed e =
      let f = faultless (not (eqb len 20)) (leb c.symbols (length t.symbols))
      (symbol_bad (length t.names) (length t.sections) (get_or (sections_in file t.sections) (symbol_at file at).section no_section) (symbol_at file at))
      5 (omega arith) e in
      record { long = right_length len 20 f.length_right; room = leb-false c.symbols (length t.symbols) f.room; good = f.good }

  reloc_passed : reloc_number c file at len t ≡ 0 → PassedReloc
  unfolding reloc_number
  reloc_passed e =
      let f = faultless (not (eqb len 23)) (leb c.relocations (length t.relocations))
      (reloc_bad (length t.sections) (length t.symbols) (get_or (sections_in file t.sections) (reloc_at file at).section no_section)
      (floor_from (reloc_at file at).section 0 (relocs_in file t.relocations)) (reloc_at file at))
      6 (omega arith) e in
      record { long = right_length len 23 f.length_right; room = leb-false c.relocations (length t.relocations) f.room; good = f.good }

  split_passed : split_number c file at len t ≡ 0 → PassedSplit
  unfolding split_number
  split_passed e =
      let f = faultless (not (eqb len partial_width)) (leb c.splits (length t.splits))
      (split_bad (get_or t.lengths (partial_at 65535 file at).unit 0) (get_or t.lengths (partial_at 65535 file at).rename 0) (partial_at 65535 file at))
      7 (omega arith) e in
      record { long = right_length len partial_width f.length_right; room = leb-false c.splits (length t.splits) f.room; good = f.good }

  unit_passed : unit_number c file at len t ≡ 0 → PassedUnit
  unfolding unit_number
  unit_passed e =
      let f = faultless (not (eqb len 8)) (leb c.units (length t.units))
      (unit_bad (get_or t.lengths (unit_at file at).name 0) (unit_at file at))
      8 (omega arith) e in
      record { long = right_length len 8 f.length_right; room = leb-false c.units (length t.units) f.room; good = f.good }

  -- ---- by kind; a repeated name is a case of its own
  pub data Passed : ℕ → Type 0 where
    again : repeated c file at len t ≡ true → Passed 1
    name : NewName → Passed 1
    section : PassedSection → Passed 2
    symbol : PassedSymbol → Passed 3
    reloc : PassedReloc → Passed 4
    split : PassedSplit → Passed 5
    unit : PassedUnit → Passed 6

  passed_name : name_number c file at len t ≡ 0 → Passed 1
  passed_name e = by_test (repeated c file at len t) refl
    where
      by_test : (b : Bool) → repeated c file at len t ≡ b → Passed 1
      by_test true p = again p
      by_test false p = name (name_passed e p)

  -- a relocation
  pub reloc_of : (kind : ℕ) → kind ≡ 4 → kind_number c file at len t kind ≡ 0 → PassedReloc
  unfolding kind_number
  reloc_of kind h e = reloc_passed (rw h at e)

  pub kind_passed : (kind : ℕ) → kind_number c file at len t kind ≡ 0 → Passed kind
  unfolding kind_number
  kind_passed kind e = one (eqb kind 1) refl e
    where
      found : (k : ℕ) → eqb kind k ≡ true → Passed k → Passed kind
      found k p q = subst Passed (sym (eqb-true kind k p)) q

      six : (b : Bool) → eqb kind 6 ≡ b → cond b (unit_number c file at len t) 1 ≡ 0 → Passed kind
      six true p e = found 6 p (unit (unit_passed e))
      six false p e = absurd (omega arith)

      five : (b : Bool) → eqb kind 5 ≡ b → cond b (split_number c file at len t) (cond (eqb kind 6) (unit_number c file at len t) 1) ≡ 0 → Passed kind
      five true p e = found 5 p (split (split_passed e))
      five false p e = six (eqb kind 6) refl e

      four : (b : Bool) → eqb kind 4 ≡ b
          → cond b (reloc_number c file at len t) (cond (eqb kind 5) (split_number c file at len t) (cond (eqb kind 6) (unit_number c file at len t) 1)) ≡ 0
          → Passed kind
      four true p e = found 4 p (reloc (reloc_passed e))
      four false p e = five (eqb kind 5) refl e

      three : (b : Bool) → eqb kind 3 ≡ b
          → cond b (symbol_number c file at len t)
          (cond (eqb kind 4) (reloc_number c file at len t) (cond (eqb kind 5) (split_number c file at len t) (cond (eqb kind 6) (unit_number c file at len t) 1))) ≡ 0
          → Passed kind
      three true p e = found 3 p (symbol (symbol_passed e))
      three false p e = four (eqb kind 4) refl e

      two : (b : Bool) → eqb kind 2 ≡ b
          → cond b (section_number c file at len t)
          (cond (eqb kind 3) (symbol_number c file at len t)
          (cond (eqb kind 4) (reloc_number c file at len t) (cond (eqb kind 5) (split_number c file at len t) (cond (eqb kind 6) (unit_number c file at len t) 1)))) ≡ 0
          → Passed kind
      two true p e = found 2 p (section (section_passed e))
      two false p e = three (eqb kind 3) refl e

      one : (b : Bool) → eqb kind 1 ≡ b
          → cond b (name_number c file at len t)
          (cond (eqb kind 2) (section_number c file at len t)
          (cond (eqb kind 3) (symbol_number c file at len t)
          (cond (eqb kind 4) (reloc_number c file at len t) (cond (eqb kind 5) (split_number c file at len t) (cond (eqb kind 6) (unit_number c file at len t) 1))))) ≡ 0
          → Passed kind
      one true p e = found 1 p (passed_name e)
      one false p e = two (eqb kind 2) refl e

-- the record at `at`: it lies in the file, and has no fault
pub record PassedRecord (c : Ceilings) (file : List ℕ) (at : ℕ) (t : Loaded) : Type 0 where
  pub head : at + 6 ≤ length file
  pub whole : at + 6 + le32 file at ≤ length file
  pub none : kind_number c file (at + 6) (le32 file at) t (le16 file (at + 4)) ≡ 0
  pub passed : Passed c file (at + 6) (le32 file at) t (le16 file (at + 4))

pub record_passed : (c : Ceilings) (file : List ℕ) (at : ℕ) (t : Loaded) → record_number c file at t ≡ 0 → PassedRecord c file at t
unfolding record_number
record_passed c file at t e =
    let f = cut_twice (ltb (length file) (at + 6)) (ltb (length file) (at + 6 + le32 file at))
    (kind_number c file (at + 6) (le32 file at) t (le16 file (at + 4))) e in
    record {
      head = ltb-false (length file) (at + 6) f.0;
      whole = ltb-false (length file) (at + 6 + le32 file at) f.1;
      none = f.2;
      passed = kind_passed c file (at + 6) (le32 file at) t (le16 file (at + 4)) f.2;
    }
  where
    cut_twice : (a b : Bool) (n : ℕ) → cond a 1 (cond b 1 n) ≡ 0 → (a ≡ false) × (b ≡ false) × (n ≡ 0)
    cut_twice true b n e = absurd (omega arith)
    cut_twice false true n e = absurd (omega arith)
    cut_twice false false n e = (refl, refl, e)

-- its length and kind, as they were read
pub record_read : (c : Ceilings) (file : List ℕ) (at : ℕ) (t : Loaded) → record_number c file at t ≡ 0 → {len kind : ℕ} → len ≡ le32 file at
    → kind ≡ le16 file (at + 4) → (at + 6 + len ≤ length file) × (kind_number c file (at + 6) len t kind ≡ 0)
record_read c file at t e {len} {kind} l k =
    let p = record_passed c file at t e in
    (omega (arith, p.whole), ap₂ (λ (i j : ℕ). kind_number c file (at + 6) i t j) l k ∙ p.none)
