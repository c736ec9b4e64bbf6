-- The number of a record's first fault, as the code finds it: by the length of its payload, the count of its kind, and its kind's test, in
-- this order. Each law joins what the code's tests and calls answer to the definition. Assumes nothing.
use Prim.Native.Nat.{ℕ, ◌+◌, ◌-◌, ◌<◌, ◌≤◌}
use mathlib.Core.Path.{◌≡◌, refl, sym, ap, ap₂, ◌∙◌}
use mathlib.Core.Bool.{Bool, true, false, cond, not}
use mathlib.Core.List.{List}
use native.Mathlib.Omega.{arith}
use borrow.Author.Tests.{lt-ltb, le-ltb, le-leb, lt-leb, eq-eqb, ne_eqb}
use lib.Dec.{eqb, ltb}
use lib.ListN.{length, get_or, take, drop}
use lib.Seq.{length-take-le}
use Rattle.std.specs.Prelude.{Option, is_some}
use Rattle.fields.specs.Fields.{le16, le32}
use Rattle.frames.specs.Frames.{is_cut}
use Rattle.frames.proofs.Laws.{not_cut}
use Rattle.obj.specs.declared.Section.{Section}
use Rattle.obj.specs.declared.Symbol.{Symbol}
use Rattle.obj.specs.declared.Reloc.{Reloc}
use Rattle.obj.specs.declared.Split.{Split}
use Rattle.obj.specs.declared.Unit as units
use Rattle.obj.specs.Records.{section_at, symbol_at, reloc_at, partial_at, unit_at, partial_width}
use Rattle.obj.specs.Nothing.{no_section}
use Rattle.names.specs.Names.{names_of, name_bad, Named}
use Rattle.names.specs.Index.{Indexed, Sought}
use Rattle.names.proofs.Laws.{part_is}
use Rattle.faults.specs.Faults.{section_bad, symbol_bad, reloc_bad, split_bad, unit_bad}
use Rattle.tables.specs.declared.Counts.{Counts, Counts as Ceilings}
use Rattle.tables.specs.Records.{sections_in, relocs_in, floor_from}
use Rattle.load.specs.Load.{Loaded, names_in, repeated, name_number, section_length, section_number, symbol_number, reloc_number, split_number, unit_number, kind_number, record_number}
use Rattle.load.specs.Columns.{part, tables_in, floors_in, Counted, Ready, Readable}
use Rattle.load.specs.Reading.{SameColumns}
use Rattle.load.specs.declared.reading.Columns.{Columns}
use Rattle.load.proofs.Laws.{held_sections}
use Rattle.load.proofs.Keeping.{counted, names-count, sections_count, symbols_count, relocations_count, splits-count, units_count, is_repeated, is_new}
use Rattle.load.proofs.Parts.{length_part, part-lent}

-- ---- "then its bytes unless kind 3", "Section bytes equal size"
module _ (file : List ℕ) (at len : ℕ) where
  pub length_short : len < 15 → true ≡ section_length file at len
  unfolding section_length
  length_short h = rw (lt-ltb len 15 h)

  module _ (h : 15 ≤ len) {s : Section} (read : s ≡ section_at file at) where
    pub length_bare : s.kind ≡ 3 → not (eqb len 15) ≡ section_length file at len
    unfolding section_length
    length_bare k = rw (le-ltb len 15 h, ← read, eq-eqb s.kind 3 k)

    pub length-full : (s.kind ≡ 3 → ⊥) → not (eqb len (15 + s.size)) ≡ section_length file at len
    unfolding section_length
    length-full k = rw (le-ltb len 15 h, ← read, ne_eqb s.kind 3 k)

module _ (c : Ceilings) (file : List ℕ) (at len : ℕ) (n : Counts) (places lengths heads chain : List ℕ) (old : Readable c file n places lengths heads chain) where
  here : Counted n
  here = counted old.allowed old.few

  -- ---- section_number
  pub section_cut : section_length file at len ≡ true → 1 ≡ section_number c file at len (tables_in n places lengths)
  unfolding section_number
  section_cut h = rw (h)

  pub section_over : section_length file at len ≡ false → c.sections ≤ n.sections → 2 ≡ section_number c file at len (tables_in n places lengths)
  unfolding section_number
  section_over h f = rw (h, sections_count n places lengths old.long_places here, le-leb c.sections n.sections f)

  module _ (h : section_length file at len ≡ false) (f : n.sections < c.sections) {s : Section} {name-len : ℕ} {bad : Bool} (read : s ≡ section_at file at)
      (looked : name-len ≡ get_or (take n.names lengths) s.name 0) (tested : bad ≡ section_bad name-len s) where
    section_tested : section_bad (get_or (tables_in n places lengths).lengths (section_at file at).name 0) (section_at file at) ≡ bad
    unfolding tables_in
    section_tested = rw (← read, ← looked) (sym tested)

    pub section_faulty : bad ≡ true → 4 ≡ section_number c file at len (tables_in n places lengths)
    unfolding section_number
    section_faulty e =
        rw (h, sections_count n places lengths old.long_places here, lt-leb c.sections n.sections f, section_tested, e)

    pub section_passes : bad ≡ false → 0 ≡ section_number c file at len (tables_in n places lengths)
    unfolding section_number
    section_passes e =
        rw (h, sections_count n places lengths old.long_places here, lt-leb c.sections n.sections f, section_tested, e)

  -- ---- symbol_number
  pub symbol_cut : (len ≡ 20 → ⊥) → 1 ≡ symbol_number c file at len (tables_in n places lengths)
  unfolding symbol_number
  symbol_cut h = rw (ne_eqb len 20 h)

  pub symbol_over : len ≡ 20 → c.symbols ≤ n.symbols → 2 ≡ symbol_number c file at len (tables_in n places lengths)
  unfolding symbol_number
  symbol_over h f = rw (eq-eqb len 20 h, symbols_count n places lengths old.long_places here, le-leb c.symbols n.symbols f)

  module _ (h : len ≡ 20) (f : n.symbols < c.symbols) {s : Symbol} {home : Section} {bad : Bool} (read : s ≡ symbol_at file at)
      (looked : home ≡ get_or (sections_in file (part 0 n.sections places)) s.section no_section) (tested : bad ≡ symbol_bad n.names n.sections home s) where
    symbol_tested : symbol_bad (length (tables_in n places lengths).names) (length (tables_in n places lengths).sections) (get_or (sections_in file (tables_in n places lengths).sections) (symbol_at file at).section no_section) (symbol_at file at) ≡ bad
    unfolding tables_in
    symbol_tested = rw (names-count n places lengths old.long_places here, sections_count n places lengths old.long_places here, ← read, ← looked) (sym tested)

    pub symbol_faulty : bad ≡ true → 5 ≡ symbol_number c file at len (tables_in n places lengths)
    unfolding symbol_number
    symbol_faulty e =
        rw (eq-eqb len 20 h, symbols_count n places lengths old.long_places here, lt-leb c.symbols n.symbols f, symbol_tested, e)

    pub symbol_passes : bad ≡ false → 0 ≡ symbol_number c file at len (tables_in n places lengths)
    unfolding symbol_number
    symbol_passes e =
        rw (eq-eqb len 20 h, symbols_count n places lengths old.long_places here, lt-leb c.symbols n.symbols f, symbol_tested, e)

  -- ---- reloc_number
  pub reloc_cut : (len ≡ 23 → ⊥) → 1 ≡ reloc_number c file at len (tables_in n places lengths)
  unfolding reloc_number
  reloc_cut h = rw (ne_eqb len 23 h)

  pub reloc_over : len ≡ 23 → c.relocations ≤ n.relocations → 2 ≡ reloc_number c file at len (tables_in n places lengths)
  unfolding reloc_number
  reloc_over h f = rw (eq-eqb len 23 h, relocations_count n places lengths old.long_places here, le-leb c.relocations n.relocations f)

  module _ (h : len ≡ 23) (f : n.relocations < c.relocations) {s : Reloc} {home : Section} {floor : ℕ} {bad : Bool} (read : s ≡ reloc_at file at)
      (looked : home ≡ get_or (sections_in file (part 0 n.sections places)) s.section no_section)
      (above : floor ≡ get_or (floors_in places) s.section 0) (tested : bad ≡ reloc_bad n.sections n.symbols home floor s) where
    reloc_tested : reloc_bad (length (tables_in n places lengths).sections) (length (tables_in n places lengths).symbols) (get_or (sections_in file (tables_in n places lengths).sections) (reloc_at file at).section no_section)
        (floor_from (reloc_at file at).section 0 (relocs_in file (tables_in n places lengths).relocations)) (reloc_at file at) ≡ bad
    unfolding tables_in
    reloc_tested = rw (sections_count n places lengths old.long_places here, symbols_count n places lengths old.long_places here, ← read, ← looked, ← old.floors s.section, ← above) (sym tested)

    pub reloc_faulty : bad ≡ true → 6 ≡ reloc_number c file at len (tables_in n places lengths)
    unfolding reloc_number
    reloc_faulty e =
        rw (eq-eqb len 23 h, relocations_count n places lengths old.long_places here, lt-leb c.relocations n.relocations f, reloc_tested, e)

    pub reloc_passes : bad ≡ false → 0 ≡ reloc_number c file at len (tables_in n places lengths)
    unfolding reloc_number
    reloc_passes e =
        rw (eq-eqb len 23 h, relocations_count n places lengths old.long_places here, lt-leb c.relocations n.relocations f, reloc_tested, e)

  -- ---- split_number
  pub split_cut : (len ≡ partial_width → ⊥) → 1 ≡ split_number c file at len (tables_in n places lengths)
  unfolding split_number
  split_cut h = rw (ne_eqb len partial_width h)

  pub split_over : len ≡ partial_width → c.splits ≤ n.splits → 2 ≡ split_number c file at len (tables_in n places lengths)
  unfolding split_number
  split_over h f = rw (eq-eqb len partial_width h, splits-count n places lengths old.long_places here, le-leb c.splits n.splits f)

  module _ (h : len ≡ partial_width) (f : n.splits < c.splits) {s : Split} {unit_len rename_len : ℕ} {bad : Bool} (read : s ≡ partial_at 65535 file at)
      (unit-looked : unit_len ≡ get_or (take n.names lengths) s.unit 0)
      (rename-looked : rename_len ≡ get_or (take n.names lengths) s.rename 0) (tested : bad ≡ split_bad unit_len rename_len s) where
    split_tested : split_bad (get_or (tables_in n places lengths).lengths (partial_at 65535 file at).unit 0) (get_or (tables_in n places lengths).lengths (partial_at 65535 file at).rename 0) (partial_at 65535 file at) ≡ bad
    unfolding tables_in
    split_tested = rw (← read, ← unit-looked, ← rename-looked) (sym tested)

    pub split_faulty : bad ≡ true → 7 ≡ split_number c file at len (tables_in n places lengths)
    unfolding split_number
    split_faulty e =
        rw (eq-eqb len partial_width h, splits-count n places lengths old.long_places here, lt-leb c.splits n.splits f, split_tested, e)

    pub split_passes : bad ≡ false → 0 ≡ split_number c file at len (tables_in n places lengths)
    unfolding split_number
    split_passes e =
        rw (eq-eqb len partial_width h, splits-count n places lengths old.long_places here, lt-leb c.splits n.splits f, split_tested, e)

  -- ---- unit_number
  pub unit_cut : (len ≡ 8 → ⊥) → 1 ≡ unit_number c file at len (tables_in n places lengths)
  unfolding unit_number
  unit_cut h = rw (ne_eqb len 8 h)

  pub unit_over : len ≡ 8 → c.units ≤ n.units → 2 ≡ unit_number c file at len (tables_in n places lengths)
  unfolding unit_number
  unit_over h f = rw (eq-eqb len 8 h, units_count n places lengths old.long_places here, le-leb c.units n.units f)

  module _ (h : len ≡ 8) (f : n.units < c.units) {s : units.Unit} {name-len : ℕ} {bad : Bool} (read : s ≡ unit_at file at)
      (looked : name-len ≡ get_or (take n.names lengths) s.name 0) (tested : bad ≡ unit_bad name-len s) where
    unit_tested : unit_bad (get_or (tables_in n places lengths).lengths (unit_at file at).name 0) (unit_at file at) ≡ bad
    unfolding tables_in
    unit_tested = rw (← read, ← looked) (sym tested)

    pub unit_faulty : bad ≡ true → 8 ≡ unit_number c file at len (tables_in n places lengths)
    unfolding unit_number
    unit_faulty e =
        rw (eq-eqb len 8 h, units_count n places lengths old.long_places here, lt-leb c.units n.units f, unit_tested, e)

    pub unit_passes : bad ≡ false → 0 ≡ unit_number c file at len (tables_in n places lengths)
    unfolding unit_number
    unit_passes e =
        rw (eq-eqb len 8 h, units_count n places lengths old.long_places here, lt-leb c.units n.units f, unit_tested, e)

-- ---- name_number
module _ (c : Ceilings) (file : List ℕ) (at len : ℕ) (n : Counts) (places lengths heads chain : List ℕ)
    (ready : Readable c file n places lengths heads chain) (r : Option ℕ)
    (found : Sought (names_in file (tables_in n places lengths)) (take len (drop at file)) r) where
  name_new : is_some r ≡ false → repeated c file at len (tables_in n places lengths) ≡ false
  name_new h = is_new c file at len (tables_in n places lengths) r found h

  counts_here : length (tables_in n places lengths).names ≡ n.names
  counts_here = names-count n places lengths ready.long_places (counted ready.allowed ready.few)

  pub name_again : is_some r ≡ true → 0 ≡ name_number c file at len (tables_in n places lengths)
  unfolding name_number
  name_again h = rw (← is_repeated c file at len (tables_in n places lengths) r found, h)

  pub name_over : is_some r ≡ false → c.names ≤ n.names → 2 ≡ name_number c file at len (tables_in n places lengths)
  unfolding name_number
  name_over h f = rw (name_new h, counts_here, le-leb c.names n.names f)

  module _ (h : is_some r ≡ false) (f : n.names < c.names) {bad : Bool} (tested : bad ≡ name_bad (take len (drop at file))) where
    pub name_faulty : bad ≡ true → 3 ≡ name_number c file at len (tables_in n places lengths)
    unfolding name_number
    name_faulty e = rw (name_new h, counts_here, lt-leb c.names n.names f, ← tested, e)

    pub name_passes : bad ≡ false → 0 ≡ name_number c file at len (tables_in n places lengths)
    unfolding name_number
    name_passes e = rw (name_new h, counts_here, lt-leb c.names n.names f, ← tested, e)

-- what is ready can be read
pub readable : {c : Ceilings} {file : List ℕ} {n : Counts} {places lengths heads chain : List ℕ} → Ready c file n places lengths heads chain
    → Readable c file n places lengths heads chain
unfolding tables_in
readable ready =
    let old = ready.tabled in record {
      allowed = old.allowed;
      few = old.few;
      small = old.small;
      long_places = old.long_places;
      long_lengths = old.long_lengths;
      names = old.good.names;
      sections = held_sections old.good (omega (arith, old.allowed.sections));
      floors = old.floors;
      indexed = ready.indexed;
    }

-- the names' parts, as `find` takes them
module _ {c : Ceilings} {file : List ℕ} {n : Counts} {places lengths heads chain : List ℕ} (ready : Readable c file n places lengths heads chain) where
  few_names : n.names ≤ 4096
  few_names = omega (arith, ready.few.names, ready.allowed.names)

  size : length (tables_in n places lengths).names ≡ n.names
  unfolding tables_in
  size = length_part 10304 n.names places (omega (arith, ready.long_places, few_names))

  names_are : names_of file (part 10304 n.names places) (take n.names lengths) n.names ≡ names_in file (tables_in n places lengths)
  unfolding names_in tables_in
  names_are = ap (names_of file (part 10304 n.names places) (take n.names lengths)) (sym (length_part 10304 n.names places (omega (arith, ready.long_places, few_names))))

  held_here : (k : ℕ) → k < n.names → get_or (part 10304 n.names places) k 0 + get_or (take n.names lengths) k 0 ≤ length file
  unfolding tables_in
  held_here k h = ready.names.held k (rw size h)

  pub lent-named : Named file (take (10304 + n.names - 10304) (drop 10304 places)) (take n.names lengths) n.names
  lent-named = rw (part-lent 10304 n.names places) (record {
    placed = rw (length_part 10304 n.names places (omega (arith, ready.long_places, few_names))) (omega arith);
    measured = rw (length-take-le n.names lengths (omega (arith, ready.long_lengths, few_names))) (omega arith);
    inside = held_here;
  })

  pub lent_indexed : Indexed (names_of file (take (10304 + n.names - 10304) (drop 10304 places)) (take n.names lengths) n.names) heads chain
  lent_indexed = rw (part-lent 10304 n.names places, names_are) ready.indexed

  pub lent_found : (at len : ℕ) (r : Option ℕ)
      → Sought (names_of file (take (10304 + n.names - 10304) (drop 10304 places)) (take n.names lengths) n.names) (take (at + len - at) (drop at file)) r
      → Sought (names_in file (tables_in n places lengths)) (take len (drop at file)) r
  lent_found at len r f = rw (part-lent 10304 n.names places, names_are, part_is file {a = at} {b = len} at len refl refl) at f

-- a search in what is known by other names
pub sought_so : {file file' places places' lengths lengths' : List ℕ} {n n' : Counts} → file' ≡ file → n' ≡ n → places' ≡ places → lengths' ≡ lengths → (at len : ℕ) (r : Option ℕ)
    → Sought (names_in file' (tables_in n' places' lengths')) (take len (drop at file')) r
    → Sought (names_in file (tables_in n places lengths)) (take len (drop at file)) r
sought_so {n' = n'} ef en ep el at len r s = rw (← ef, ← en, ← ep, ← el) s

-- the columns themselves
pub same_columns : (k : Columns) → SameColumns k k
same_columns k = record { file = refl; most = refl; places = refl; lengths = refl; heads = refl; chain = refl }

pub same_after : {k l m : Columns} → SameColumns l m → SameColumns k l → SameColumns k m
same_after a b = record { file = a.file ∙ b.file; most = a.most ∙ b.most; places = a.places ∙ b.places; lengths = a.lengths ∙ b.lengths; heads = a.heads ∙ b.heads; chain = a.chain ∙ b.chain }

-- ---- by kind
module _ (c : Ceilings) (file : List ℕ) (at len : ℕ) (t : Loaded) (kind : ℕ) where
  pub kind_name : kind ≡ 1 → name_number c file at len t ≡ kind_number c file at len t kind
  unfolding kind_number
  kind_name h = rw (eq-eqb kind 1 h)

-- ---- the record
module _ (c : Ceilings) (file : List ℕ) (at : ℕ) (t : Loaded) where
  pub file_cut : is_cut file at ≡ true → 1 ≡ record_number c file at t
  unfolding record_number is_cut
  file_cut e = go (ltb (length file) (at + 6)) e
    where
      go : (p : Bool) → cond p true (ltb (length file) (at + 6 + le32 file at)) ≡ true
          → 1 ≡ cond p 1 (cond (ltb (length file) (at + 6 + le32 file at)) 1 (kind_number c file (at + 6) (le32 file at) t (le16 file (at + 4))))
      go true e = refl
      go false e = rw e refl

  pub file_whole : is_cut file at ≡ false → {len kind : ℕ} → len ≡ le32 file at → kind ≡ le16 file (at + 4) → kind_number c file (at + 6) len t kind ≡ record_number c file at t
  unfolding record_number
  file_whole e read k =
      let w = not_cut file at e in
      rw (le-ltb (length file) (at + 6) w.0, le-ltb (length file) (at + 6 + le32 file at) w.1)
      (ap₂ (λ (l j : ℕ). kind_number c file (at + 6) l t j) read k)
