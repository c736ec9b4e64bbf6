-- A record without a fault is kept: its place goes behind those of its kind, and all other parts of the columns stay. So the columns mean
-- what is loaded with the record, and what was known of them is known again. Assumes nothing.
use Prim.Native.Nat.{ℕ, ◌+◌, ◌<◌, ◌≤◌}
use mathlib.Core.Path.{◌≡◌, refl, sym, ap, ◌∙◌}
use mathlib.Core.Bool.{Bool, true, false, cond}
use mathlib.Core.List.{List, [], ◌∷◌, ◌++◌, map-append}
use native.Mathlib.Nat.{add-zero}
use native.Mathlib.Numerals.{add-one}
use native.Mathlib.Omega.{arith}
use borrow.Author.Tests.{ltb-false, ne_eqb}
use lib.Dec.{eqb}
use lib.ListN.{length, get_or, take, drop, set, length-set, length-append, length-drop}
use lib.Seq.{length-take-le, take_all, take-append_seam, take-suc-set, get_or-append_seam}
use Rattle.obj.specs.declared.Reloc.{Reloc}
use Rattle.std.specs.Prelude.{Option, is_some, ltb}
use Rattle.std.proofs.lemmas.List.{get_or-map}
use Rattle.lists.proofs.Tests.{none_of}
use Rattle.obj.specs.Records.{section_at, reloc_at}
use Rattle.obj.specs.Nothing.{no_section, no_reloc}
use Rattle.names.specs.Names.{number_of, name_bad}
use Rattle.names.specs.Index.{InBucket, Sought}
use Rattle.names.proofs.Indexes.{indexed_entered, sought_asked, sought_new}
use Rattle.names.proofs.Laws.{length-names}
use Rattle.faults.proofs.Laws.{reloc_section, reloc_inside}
use Rattle.tables.specs.declared.Counts.{Counts, Counts as Ceilings}
use Rattle.tables.specs.Records.{relocs_in, floor_from}
use Rattle.tables.proofs.Floors.{Floors, floors_more}
use Rattle.load.specs.Load.{Loaded, names_in, repeated, name_number, kind_number, with_record}
use Rattle.load.specs.Columns.{tables_in, floors_in, one_more, slot_of, Allowed, Few, Counted, RelocFits, Tabled, Ready, Kept}
use Rattle.load.proofs.Numbers.{NewName, PassedReloc, Passed, again, name, section, symbol, reloc, split, unit, name_passed, kind_passed}
use Rattle.load.proofs.Growth.{names_more}
use Rattle.load.proofs.Laws.{good_kind}
use Rattle.load.proofs.Parts.{length_part, part_above, part-below, part_more, part_stored}

-- ---- what is loaded with a new name
abbrev with_name : (at len : ℕ) → Loaded → Loaded
with_name at len t = record {
  names = t.names ++ (at ∷ []);
  lengths = t.lengths ++ (len ∷ []);
  sections = t.sections;
  symbols = t.symbols;
  relocations = t.relocations;
  splits = t.splits;
  units = t.units;
}

with_record_new : (c : Ceilings) (file : List ℕ) (at len : ℕ) (t : Loaded) → repeated c file at len t ≡ false
    → with_record c file at len t 1 ≡ with_name at len t
unfolding with_record
with_record_new c file at len t e = rw e

-- ---- the place of a record of each kind, stored behind those of its kind

module _ (n : Counts) (places lengths : List ℕ) (at : ℕ) (long : 14464 ≤ length places) (few : Counted n) (c : Ceilings) (file : List ℕ) (len : ℕ) where
  section_stored : n.sections < 64 → tables_in (one_more 2 n) (set places (slot_of 2 n) at) lengths ≡ with_record c file at len (tables_in n places lengths) 2
  unfolding tables_in one_more slot_of with_record
  section_stored h = λ z. record {
    names = part-below 10304 n.names places (0 + n.sections) at (omega (arith, few.sections)) (add-zero n.names) z;
    lengths = ap (λ (i : ℕ). take i lengths) (add-zero n.names) z;
    sections = part_more 0 n.sections places (0 + n.sections) at refl refl (omega arith) z;
    symbols = part-below 64 n.symbols places (0 + n.sections) at (omega (arith, few.sections)) (add-zero n.symbols) z;
    relocations = part-below 4160 n.relocations places (0 + n.sections) at (omega (arith, few.sections)) (add-zero n.relocations) z;
    splits = part-below 8256 n.splits places (0 + n.sections) at (omega (arith, few.sections)) (add-zero n.splits) z;
    units = part-below 9280 n.units places (0 + n.sections) at (omega (arith, few.sections)) (add-zero n.units) z;
  }

  symbol_stored : n.symbols < 4096 → tables_in (one_more 3 n) (set places (slot_of 3 n) at) lengths ≡ with_record c file at len (tables_in n places lengths) 3
  unfolding tables_in one_more slot_of with_record
  symbol_stored h = λ z. record {
    names = part-below 10304 n.names places (64 + n.symbols) at (omega (arith, few.symbols)) (add-zero n.names) z;
    lengths = ap (λ (i : ℕ). take i lengths) (add-zero n.names) z;
    sections = part_above 0 n.sections places (64 + n.symbols) at (omega (arith, few.sections)) (add-zero n.sections) z;
    symbols = part_more 64 n.symbols places (64 + n.symbols) at refl refl (omega arith) z;
    relocations = part-below 4160 n.relocations places (64 + n.symbols) at (omega (arith, few.symbols)) (add-zero n.relocations) z;
    splits = part-below 8256 n.splits places (64 + n.symbols) at (omega (arith, few.symbols)) (add-zero n.splits) z;
    units = part-below 9280 n.units places (64 + n.symbols) at (omega (arith, few.symbols)) (add-zero n.units) z;
  }

  reloc_stored : n.relocations < 4096 → tables_in (one_more 4 n) (set places (slot_of 4 n) at) lengths ≡ with_record c file at len (tables_in n places lengths) 4
  unfolding tables_in one_more slot_of with_record
  reloc_stored h = λ z. record {
    names = part-below 10304 n.names places (4160 + n.relocations) at (omega (arith, few.relocations)) (add-zero n.names) z;
    lengths = ap (λ (i : ℕ). take i lengths) (add-zero n.names) z;
    sections = part_above 0 n.sections places (4160 + n.relocations) at (omega (arith, few.sections)) (add-zero n.sections) z;
    symbols = part_above 64 n.symbols places (4160 + n.relocations) at (omega (arith, few.symbols)) (add-zero n.symbols) z;
    relocations = part_more 4160 n.relocations places (4160 + n.relocations) at refl refl (omega arith) z;
    splits = part-below 8256 n.splits places (4160 + n.relocations) at (omega (arith, few.relocations)) (add-zero n.splits) z;
    units = part-below 9280 n.units places (4160 + n.relocations) at (omega (arith, few.relocations)) (add-zero n.units) z;
  }

  split_stored : n.splits < 1024 → tables_in (one_more 5 n) (set places (slot_of 5 n) at) lengths ≡ with_record c file at len (tables_in n places lengths) 5
  unfolding tables_in one_more slot_of with_record
  split_stored h = λ z. record {
    names = part-below 10304 n.names places (8256 + n.splits) at (omega (arith, few.splits)) (add-zero n.names) z;
    lengths = ap (λ (i : ℕ). take i lengths) (add-zero n.names) z;
    sections = part_above 0 n.sections places (8256 + n.splits) at (omega (arith, few.sections)) (add-zero n.sections) z;
    symbols = part_above 64 n.symbols places (8256 + n.splits) at (omega (arith, few.symbols)) (add-zero n.symbols) z;
    relocations = part_above 4160 n.relocations places (8256 + n.splits) at (omega (arith, few.relocations)) (add-zero n.relocations) z;
    splits = part_more 8256 n.splits places (8256 + n.splits) at refl refl (omega arith) z;
    units = part-below 9280 n.units places (8256 + n.splits) at (omega (arith, few.splits)) (add-zero n.units) z;
  }

  unit_stored : n.units < 1024 → tables_in (one_more 6 n) (set places (slot_of 6 n) at) lengths ≡ with_record c file at len (tables_in n places lengths) 6
  unfolding tables_in one_more slot_of with_record
  unit_stored h = λ z. record {
    names = part-below 10304 n.names places (9280 + n.units) at (omega (arith, few.units)) (add-zero n.names) z;
    lengths = ap (λ (i : ℕ). take i lengths) (add-zero n.names) z;
    sections = part_above 0 n.sections places (9280 + n.units) at (omega (arith, few.sections)) (add-zero n.sections) z;
    symbols = part_above 64 n.symbols places (9280 + n.units) at (omega (arith, few.symbols)) (add-zero n.symbols) z;
    relocations = part_above 4160 n.relocations places (9280 + n.units) at (omega (arith, few.relocations)) (add-zero n.relocations) z;
    splits = part_above 8256 n.splits places (9280 + n.units) at (omega (arith, few.splits)) (add-zero n.splits) z;
    units = part_more 9280 n.units places (9280 + n.units) at refl refl (omega arith) z;
  }

  -- a store among the floors lies above all places
  floor_stored : (s x : ℕ) → tables_in n (set places (14400 + s) x) lengths ≡ tables_in n places lengths
  unfolding tables_in
  floor_stored s x = λ z. record {
    names = part_above 10304 n.names places (14400 + s) x (omega (arith, few.names)) refl z;
    lengths = take n.names lengths;
    sections = part_above 0 n.sections places (14400 + s) x (omega (arith, few.sections)) refl z;
    symbols = part_above 64 n.symbols places (14400 + s) x (omega (arith, few.symbols)) refl z;
    relocations = part_above 4160 n.relocations places (14400 + s) x (omega (arith, few.relocations)) refl z;
    splits = part_above 8256 n.splits places (14400 + s) x (omega (arith, few.splits)) refl z;
    units = part_above 9280 n.units places (14400 + s) x (omega (arith, few.units)) refl z;
  }

  -- a name's length stands beside its place
  with_name_lem : n.names < 4096 → n.names < length lengths
      → tables_in (one_more 1 n) (set places (slot_of 1 n) at) (set lengths n.names len) ≡ with_name at len (tables_in n places lengths)
  unfolding tables_in one_more slot_of
  with_name_lem h q = λ z. record {
    names = part_more 10304 n.names places (10304 + n.names) at refl refl (omega arith) z;
    lengths = (ap (λ (i : ℕ). take i (set lengths n.names len)) (add-one n.names) ∙ take-suc-set lengths n.names len q) z;
    sections = part_above 0 n.sections places (10304 + n.names) at (omega (arith, few.sections)) (add-zero n.sections) z;
    symbols = part_above 64 n.symbols places (10304 + n.names) at (omega (arith, few.symbols)) (add-zero n.symbols) z;
    relocations = part_above 4160 n.relocations places (10304 + n.names) at (omega (arith, few.relocations)) (add-zero n.relocations) z;
    splits = part_above 8256 n.splits places (10304 + n.names) at (omega (arith, few.splits)) (add-zero n.splits) z;
    units = part_above 9280 n.units places (10304 + n.names) at (omega (arith, few.units)) (add-zero n.units) z;
  }

  name_stored : n.names < 4096 → n.names < length lengths → repeated c file at len (tables_in n places lengths) ≡ false
      → tables_in (one_more 1 n) (set places (slot_of 1 n) at) (set lengths n.names len) ≡ with_record c file at len (tables_in n places lengths) 1
  name_stored h q e = with_name_lem h q ∙ sym (with_record_new c file at len (tables_in n places lengths) e)

-- ---- the counts

pub counted : {c : Ceilings} {n : Counts} → Allowed c → Few c n → Counted n
counted a f = record {
  names = omega (arith, a.names, f.names);
  sections = omega (arith, a.sections, f.sections);
  symbols = omega (arith, a.symbols, f.symbols);
  relocations = omega (arith, a.relocations, f.relocations);
  splits = omega (arith, a.splits, f.splits);
  units = omega (arith, a.units, f.units);
}

-- every place for a record's place lies below the floors, or at their start
pub slot_low : (kind : ℕ) (n : Counts) → Counted n → slot_of kind n ≤ 14400
unfolding slot_of
slot_low kind n few =
    either (eqb kind 1) (omega (arith, few.names))
    (either (eqb kind 2) (omega (arith, few.sections))
    (either (eqb kind 3) (omega (arith, few.symbols))
    (either (eqb kind 4) (omega (arith, few.relocations))
    (either (eqb kind 5) (omega (arith, few.splits)) (omega (arith, few.units))))))
  where
    either : (b : Bool) {x y m : ℕ} → x ≤ m → y ≤ m → cond b x y ≤ m
    either true p q = p
    either false p q = q

-- the parts are as long as their counts say
module _ (n : Counts) (places lengths : List ℕ) (long : 14464 ≤ length places) (few : Counted n) where
  pub names-count : length (tables_in n places lengths).names ≡ n.names
  unfolding tables_in
  names-count = length_part 10304 n.names places (omega (arith, few.names))

  pub sections_count : length (tables_in n places lengths).sections ≡ n.sections
  unfolding tables_in
  sections_count = length_part 0 n.sections places (omega (arith, few.sections))

  pub symbols_count : length (tables_in n places lengths).symbols ≡ n.symbols
  unfolding tables_in
  symbols_count = length_part 64 n.symbols places (omega (arith, few.symbols))

  pub relocations_count : length (tables_in n places lengths).relocations ≡ n.relocations
  unfolding tables_in
  relocations_count = length_part 4160 n.relocations places (omega (arith, few.relocations))

  pub splits-count : length (tables_in n places lengths).splits ≡ n.splits
  unfolding tables_in
  splits-count = length_part 8256 n.splits places (omega (arith, few.splits))

  pub units_count : length (tables_in n places lengths).units ≡ n.units
  unfolding tables_in
  units_count = length_part 9280 n.units places (omega (arith, few.units))

module _ (c : Ceilings) (n : Counts) (few : Few c n) where
  few_name : n.names < c.names → Few c (one_more 1 n)
  unfolding one_more
  few_name h = record {
    names = omega arith;
    sections = omega (arith, few.sections);
    symbols = omega (arith, few.symbols);
    relocations = omega (arith, few.relocations);
    splits = omega (arith, few.splits);
    units = omega (arith, few.units);
  }

  few_section : n.sections < c.sections → Few c (one_more 2 n)
  unfolding one_more
  few_section h = record {
    names = omega (arith, few.names);
    sections = omega arith;
    symbols = omega (arith, few.symbols);
    relocations = omega (arith, few.relocations);
    splits = omega (arith, few.splits);
    units = omega (arith, few.units);
  }

  few_symbol : n.symbols < c.symbols → Few c (one_more 3 n)
  unfolding one_more
  few_symbol h = record {
    names = omega (arith, few.names);
    sections = omega (arith, few.sections);
    symbols = omega arith;
    relocations = omega (arith, few.relocations);
    splits = omega (arith, few.splits);
    units = omega (arith, few.units);
  }

  few_reloc : n.relocations < c.relocations → Few c (one_more 4 n)
  unfolding one_more
  few_reloc h = record {
    names = omega (arith, few.names);
    sections = omega (arith, few.sections);
    symbols = omega (arith, few.symbols);
    relocations = omega arith;
    splits = omega (arith, few.splits);
    units = omega (arith, few.units);
  }

  few_split : n.splits < c.splits → Few c (one_more 5 n)
  unfolding one_more
  few_split h = record {
    names = omega (arith, few.names);
    sections = omega (arith, few.sections);
    symbols = omega (arith, few.symbols);
    relocations = omega (arith, few.relocations);
    splits = omega arith;
    units = omega (arith, few.units);
  }

  few_unit : n.units < c.units → Few c (one_more 6 n)
  unfolding one_more
  few_unit h = record {
    names = omega (arith, few.names);
    sections = omega (arith, few.sections);
    symbols = omega (arith, few.symbols);
    relocations = omega (arith, few.relocations);
    splits = omega (arith, few.splits);
    units = omega arith;
  }

-- ---- a record of another kind than a name

-- what is loaded with it has the names that were there
same_names : (c : Ceilings) (file : List ℕ) (at len : ℕ) (t : Loaded) (kind : ℕ) → eqb kind 1 ≡ false
    → names_in file (with_record c file at len t kind) ≡ names_in file t
unfolding with_record names_in
same_names c file at len t kind e = rw e

-- and, unless it is one, the relocations
same_relocations : (c : Ceilings) (file : List ℕ) (at len : ℕ) (t : Loaded) (kind : ℕ) → eqb kind 1 ≡ false → eqb kind 4 ≡ false
    → (with_record c file at len t kind).relocations ≡ t.relocations
unfolding with_record
same_relocations c file at len t kind e f = rw (e, f)

module _ (c : Ceilings) (file : List ℕ) (at len kind : ℕ) (n : Counts) (places lengths heads chain : List ℕ)
    (ready : Ready c file n places lengths heads chain) (fits : at + len ≤ length file) (passed : Passed c file at len (tables_in n places lengths) kind)
    (more : Counts) (stored : List ℕ) (few : Few c more) (same : length stored ≡ length places)
    (tables : tables_in more stored lengths ≡ with_record c file at len (tables_in n places lengths) kind) (other : eqb kind 1 ≡ false)
    (floors : (s : ℕ) → get_or (floors_in stored) s 0 ≡ floor_from s 0 (relocs_in file (tables_in more stored lengths).relocations)) where
  kept : Kept c file at len kind (tables_in n places lengths) more stored lengths heads chain
  kept =
      let old = ready.tabled in record {
        ready = record {
          tabled = record {
            allowed = old.allowed;
            few = few;
            small = old.small;
            long_places = omega (arith, old.long_places, same);
            long_lengths = old.long_lengths;
            good = rw tables (good_kind c file at len (tables_in n places lengths) old.good fits kind passed);
            floors = floors;
          };
          indexed = rw (tables, same_names c file at len (tables_in n places lengths) kind other) ready.indexed;
        };
        tables = tables;
      }

-- the floors of a record that is no relocation either: its place lies below them
kept_floors : (c : Ceilings) (file : List ℕ) (at len kind : ℕ) (n more : Counts) (places lengths : List ℕ) (i : ℕ) → i < 14400
    → Tabled c file n places lengths
    → tables_in more (set places i at) lengths ≡ with_record c file at len (tables_in n places lengths) kind → eqb kind 1 ≡ false → eqb kind 4 ≡ false
    → (s : ℕ) → get_or (floors_in (set places i at)) s 0 ≡ floor_from s 0 (relocs_in file (tables_in more (set places i at) lengths).relocations)
kept_floors c file at len kind n more places lengths i below old tables e f s =
    rw (part-below 14400 64 places i at below refl, tables, same_relocations c file at len (tables_in n places lengths) kind e f) (old.floors s)

module _ (c : Ceilings) (file : List ℕ) (at len : ℕ) (n : Counts) (places lengths heads chain : List ℕ)
    (ready : Ready c file n places lengths heads chain) (fits : at + len ≤ length file) where
  few_now : Counted n
  few_now = counted ready.tabled.allowed ready.tabled.few

  plain : (kind : ℕ) → Passed c file at len (tables_in n places lengths) kind → Few c (one_more kind n) → slot_of kind n < 14400
      → tables_in (one_more kind n) (set places (slot_of kind n) at) lengths ≡ with_record c file at len (tables_in n places lengths) kind
      → eqb kind 1 ≡ false → eqb kind 4 ≡ false
      → Kept c file at len kind (tables_in n places lengths) (one_more kind n) (set places (slot_of kind n) at) lengths heads chain
  plain kind passed few below tables e f =
      kept c file at len kind n places lengths heads chain ready fits passed (one_more kind n) (set places (slot_of kind n) at) few
      (length-set places (slot_of kind n) at) tables e
      (kept_floors c file at len kind n (one_more kind n) places lengths (slot_of kind n) below ready.tabled tables e f)

  -- a section, symbol, split or unit
  kept_passed : (kind : ℕ) → Passed c file at len (tables_in n places lengths) kind → eqb kind 1 ≡ false → eqb kind 4 ≡ false
      → Kept c file at len kind (tables_in n places lengths) (one_more kind n) (set places (slot_of kind n) at) lengths heads chain
  unfolding slot_of
  kept_passed _ (again p) e f = absurd (let z : ◌≡◌ {A = ℕ} 0 1 = cc in omega arith)
  kept_passed _ (name p) e f = absurd (let z : ◌≡◌ {A = ℕ} 0 1 = cc in omega arith)
  kept_passed _ (section p) e f =
      let old = ready.tabled in
      let room : n.sections < c.sections = omega (arith, p.room, sections_count n places lengths old.long_places few_now) in
      plain 2 (section p) (few_section c n old.few room) (omega (arith, few_now.sections))
      (section_stored n places lengths at old.long_places few_now c file len (omega (arith, old.allowed.sections))) refl refl
  kept_passed _ (symbol p) e f =
      let old = ready.tabled in
      let room : n.symbols < c.symbols = omega (arith, p.room, symbols_count n places lengths old.long_places few_now) in
      plain 3 (symbol p) (few_symbol c n old.few room) (omega (arith, few_now.symbols))
      (symbol_stored n places lengths at old.long_places few_now c file len (omega (arith, old.allowed.symbols))) refl refl
  kept_passed _ (reloc p) e f = absurd (let z : ◌≡◌ {A = ℕ} 0 1 = cc in omega arith)
  kept_passed _ (split p) e f =
      let old = ready.tabled in
      let room : n.splits < c.splits = omega (arith, p.room, splits-count n places lengths old.long_places few_now) in
      plain 5 (split p) (few_split c n old.few room) (omega (arith, few_now.splits))
      (split_stored n places lengths at old.long_places few_now c file len (omega (arith, old.allowed.splits))) refl refl
  kept_passed _ (unit p) e f =
      let old = ready.tabled in
      let room : n.units < c.units = omega (arith, p.room, units_count n places lengths old.long_places few_now) in
      plain 6 (unit p) (few_unit c n old.few room) (omega (arith, few_now.units))
      (unit_stored n places lengths at old.long_places few_now c file len (omega (arith, old.allowed.units))) refl refl

  pub kept-place : {more : Counts} {stored : List ℕ} (kind : ℕ) → kind_number c file at len (tables_in n places lengths) kind ≡ 0
      → (kind ≡ 1 → ⊥) → (kind ≡ 4 → ⊥) → more ≡ one_more kind n → stored ≡ set places (slot_of kind n) at
      → Kept c file at len kind (tables_in n places lengths) more stored lengths heads chain
  kept-place kind none e f m q =
      rw (m, q) (kept_passed kind (kind_passed c file at len (tables_in n places lengths) kind none) (ne_eqb kind 1 e) (ne_eqb kind 4 f))

-- ---- a relocation

-- the floors with one relocation more
floors_after : (relocs : List Reloc) (r : Reloc) (floors : List ℕ) → ((s : ℕ) → get_or floors s 0 ≡ floor_from s 0 relocs) → r.section < length floors
    → (s : ℕ) → get_or (set floors r.section (r.address + 1)) s 0 ≡ floor_from s 0 (relocs ++ (r ∷ []))
floors_after relocs r floors old h s =
    let more = relocs ++ (r ∷ []) in
    let n = length-append relocs (r ∷ []) in
    let before : Floors more (length relocs) floors = record { each = λ k. rw (take-append_seam relocs (r ∷ [])) (old k) } in
    (floors_more more (length relocs) floors before (omega arith) (sym (get_or-append_seam relocs r [] no_reloc)) h).each s
    ∙ ap (floor_from s 0) (take_all (length relocs + 1) more (omega arith))

module _ (c : Ceilings) (file : List ℕ) (at len : ℕ) (n : Counts) (places lengths heads chain : List ℕ)
    (ready : Ready c file n places lengths heads chain) (fits : at + len ≤ length file) (p : PassedReloc c file at len (tables_in n places lengths)) where
  old : Tabled c file n places lengths
  old = ready.tabled

  here : Counted n
  here = counted old.allowed old.few

  room : n.relocations < c.relocations
  room = omega (arith, p.room, relocations_count n places lengths old.long_places here)

  known : (reloc_at file at).section < length (tables_in n places lengths).sections
  known = reloc_section _ _ _ _ (reloc_at file at) p.good

  low : (reloc_at file at).section < 64
  low = omega (arith, known, sections_count n places lengths old.long_places here, here.sections)

  -- it lies in its section, which ends at 0xF0000000 at most
  address_low : (reloc_at file at).address < 4026531840
  address_low =
      let home = old.good.sections.each (reloc_at file at).section known in
      let inside = rw (get_or-map (section_at file) (tables_in n places lengths).sections (reloc_at file at).section 0 no_section known)
      at (reloc_inside _ _ _ _ (reloc_at file at) p.good).1 in
      omega (arith, home.end)

  pub reloc_fits : RelocFits file at places n
  reloc_fits = record {
    held = omega (arith, p.long);
    section = low;
    address = omega (arith, address_low);
    slot = omega (arith, room, old.allowed.relocations);
    long = old.long_places;
  }

  reloc_floors : (v : ℕ) → v ≡ (reloc_at file at).address + 1 → (s : ℕ)
      → get_or (floors_in (set (set places (14400 + (reloc_at file at).section) v) (slot_of 4 n) at)) s 0
      ≡ floor_from s 0 (relocs_in file ((tables_in n places lengths).relocations ++ (at ∷ [])))
  unfolding slot_of
  reloc_floors v e s =
      rw (
        part-below 14400 64 (set places (14400 + (reloc_at file at).section) v) (4160 + n.relocations) at (omega (arith, here.relocations)) refl,
        part_stored 14400 64 places (reloc_at file at).section v low,
        e,
        map-append (reloc_at file) (tables_in n places lengths).relocations (at ∷ []),
      )
      (floors_after (relocs_in file (tables_in n places lengths).relocations) (reloc_at file at) (floors_in places) old.floors
      (rw (length_part 14400 64 places (omega (arith, old.long_places))) low) s)

  reloc_tables : (v : ℕ)
      → tables_in (one_more 4 n) (set (set places (14400 + (reloc_at file at).section) v) (slot_of 4 n) at) lengths
      ≡ with_record c file at len (tables_in n places lengths) 4
  reloc_tables v =
      reloc_stored n (set places (14400 + (reloc_at file at).section) v) lengths at (rw length-set old.long_places) here c file len
      (omega (arith, room, old.allowed.relocations))
      ∙ ap (λ (t : Loaded). with_record c file at len t 4) (floor_stored n places lengths at old.long_places here c file len (reloc_at file at).section v)

  with_reloc : (with_record c file at len (tables_in n places lengths) 4).relocations ≡ (tables_in n places lengths).relocations ++ (at ∷ [])
  unfolding with_record
  with_reloc = refl

  pub kept_reloc : {more : Counts} {stored : List ℕ} {kind : ℕ} → kind ≡ 4 → more ≡ one_more 4 n
      → stored ≡ set (set places (14400 + (reloc_at file at).section) ((reloc_at file at).address + 1)) (slot_of 4 n) at
      → Kept c file at len kind (tables_in n places lengths) more stored lengths heads chain
  kept_reloc h m e =
      let v = (reloc_at file at).address + 1 in
      let after = set (set places (14400 + (reloc_at file at).section) v) (slot_of 4 n) at in
      rw (h, m, e)
      (kept c file at len 4 n places lengths heads chain ready fits (reloc p) (one_more 4 n) after (few_reloc c n old.few room)
      (length-set (set places (14400 + (reloc_at file at).section) v) (slot_of 4 n) at ∙ length-set places (14400 + (reloc_at file at).section) v)
      (reloc_tables v) refl
      (λ s. rw (reloc_tables v, with_reloc) (reloc_floors v refl s)))

-- ---- a name

-- the name that was found is repeated, another one is not
module _ (c : Ceilings) (file : List ℕ) (at len : ℕ) (t : Loaded) (r : Option ℕ) (found : Sought (names_in file t) (take len (drop at file)) r) where
  pub is_repeated : is_some r ≡ repeated c file at len t
  unfolding repeated names_in
  is_repeated =
      sought_asked (names_in file t) (take len (drop at file)) r found
      ∙ ap (ltb (number_of (names_in file t) (take len (drop at file)))) (length-names file t.names t.lengths (length t.names))

  pub is_new : is_some r ≡ false → repeated c file at len t ≡ false
  is_new h = sym is_repeated ∙ h

module _ (c : Ceilings) (file : List ℕ) (at len : ℕ) (n : Counts) (places lengths heads chain : List ℕ)
    (ready : Ready c file n places lengths heads chain) (fits : at + len ≤ length file) (r : Option ℕ)
    (found : Sought (names_in file (tables_in n places lengths)) (take len (drop at file)) r) where
  tabled : Tabled c file n places lengths
  tabled = ready.tabled

  counts : Counted n
  counts = counted tabled.allowed tabled.few

  names_long : length (tables_in n places lengths).names ≡ n.names
  names_long = names-count n places lengths tabled.long_places counts

  names_size : length (names_in file (tables_in n places lengths)) ≡ n.names
  unfolding names_in
  names_size = length-names file (tables_in n places lengths).names (tables_in n places lengths).lengths (length (tables_in n places lengths).names) ∙ names_long

  is_old : is_some r ≡ repeated c file at len (tables_in n places lengths)
  is_old = is_repeated c file at len (tables_in n places lengths) r found

  is_other : is_some r ≡ false → repeated c file at len (tables_in n places lengths) ≡ false
  is_other h = sym is_old ∙ h

  -- a repeated name adds nothing
  with_repeated : repeated c file at len (tables_in n places lengths) ≡ true → with_record c file at len (tables_in n places lengths) 1 ≡ tables_in n places lengths
  unfolding with_record
  with_repeated e = rw e

  pub kept_repeated : is_some r ≡ true → Kept c file at len 1 (tables_in n places lengths) n places lengths heads chain
  kept_repeated h = record { ready = ready; tables = sym (with_repeated (sym is_old ∙ h)) }

  module _ (none : is_some r ≡ false) (number : name_number c file at len (tables_in n places lengths) ≡ 0) where
    passed_name : NewName c file at len (tables_in n places lengths)
    passed_name = name_passed c file at len (tables_in n places lengths) number (is_other none)

    name_room : n.names < c.names
    name_room = omega (arith, passed_name.room, names_long)

    -- "a name 1 to 128 bytes"
    pub name_short : len ≤ 128
    unfolding name_bad
    name_short =
        let short : length (take len (drop at file)) ≤ 128 = ltb-false 128 (length (take len (drop at file))) (none_of _ 0 passed_name.good) in
        let long = length-take-le len (drop at file) (simp length-drop (omega arith)) in
        omega arith

    pub name_below : n.names < 4096
    name_below = omega (arith, name_room, tabled.allowed.names)

    new_tables : tables_in (one_more 1 n) (set places (slot_of 1 n) at) (set lengths n.names len) ≡ with_record c file at len (tables_in n places lengths) 1
    new_tables =
        name_stored n places lengths at tabled.long_places counts c file len name_below (omega (arith, name_below, tabled.long_lengths)) (is_other none)

    new_names : names_in file (with_record c file at len (tables_in n places lengths) 1) ≡ names_in file (tables_in n places lengths) ++ (take len (drop at file) ∷ [])
    unfolding names_in
    new_names =
        rw (with_record_new c file at len (tables_in n places lengths) (is_other none))
        (names_more file (tables_in n places lengths).names (tables_in n places lengths).lengths at len tabled.good.names.measured)

    same_relocs : (with_record c file at len (tables_in n places lengths) 1).relocations ≡ (tables_in n places lengths).relocations
    same_relocs = rw (with_record_new c file at len (tables_in n places lengths) (is_other none))

    name_slot : slot_of 1 n < 14400
    unfolding slot_of
    name_slot = omega (arith, name_below)

    new_floors : (s : ℕ)
        → get_or (floors_in (set places (slot_of 1 n) at)) s 0
        ≡ floor_from s 0 (relocs_in file (tables_in (one_more 1 n) (set places (slot_of 1 n) at) (set lengths n.names len)).relocations)
    new_floors s = rw (part-below 14400 64 places (slot_of 1 n) at name_slot refl, new_tables, same_relocs) (tabled.floors s)

    pub kept_name : {more : Counts} {stored measured heads' chain' : List ℕ} {bucket : ℕ} → InBucket (take len (drop at file)) bucket
        → more ≡ one_more 1 n → stored ≡ set places (slot_of 1 n) at → measured ≡ set lengths n.names len
        → heads' ≡ set heads bucket (n.names + 1) → chain' ≡ set chain n.names (get_or heads bucket 0)
        → Kept c file at len 1 (tables_in n places lengths) more stored measured heads' chain'
    kept_name b m e l h k = rw (m, e, l) (record {
      ready = record {
        tabled = record {
          allowed = tabled.allowed;
          few = few_name c n tabled.few name_room;
          small = tabled.small;
          long_places = rw length-set tabled.long_places;
          long_lengths = rw length-set tabled.long_lengths;
          good = rw new_tables (good_kind c file at len (tables_in n places lengths) tabled.good fits 1 (name passed_name));
          floors = new_floors;
        };
        indexed = rw new_tables
            (indexed_entered ready.indexed names_size (sought_new (names_in file (tables_in n places lengths)) (take len (drop at file)) r found none) (omega (arith, names_size)) name_below new_names b h k);
      };
      tables = new_tables;
    })
