-- What an accepted file is: nothing loaded is good, a record without a fault keeps what is loaded good, so all that is loaded is good. The
-- stages take of it what they need, over the lists of the records. Assumes nothing.
use Prim.Native.Nat.{ℕ, zero, suc, ◌+◌, ◌<◌, ◌≤◌}
use mathlib.Core.Path.{◌≡◌, refl, subst}
use mathlib.Core.Bool.{Bool, true, false, cond}
use mathlib.Core.List.{List, [], ◌∷◌, ◌++◌, map-append}
use native.Mathlib.Omega.{arith}
use borrow.Author.Tests.{ltb-false}
use lib.Dec.{ltb, leb}
use lib.ListN.{length, get_or, take, drop, length-append, length-map, length-drop}
use lib.Seq.{length-take-le}
use Rattle.std.proofs.lemmas.List.{get_or-map}
use Rattle.lists.specs.Outcome.{accepted, refused}
use Rattle.lists.proofs.Outcomes.{not_both, same_accepted, then_inv}
use Rattle.lists.proofs.Rows.{has_place}
use Rattle.fields.specs.Fields.{le16, le32}
use Rattle.obj.specs.Records.{section_at, symbol_at, reloc_at, partial_at, partial_numbered, unit_at, partial_width}
use Rattle.obj.specs.Nothing.{no_section, no_symbol, no_reloc, no_split, no_unit}
use Rattle.lists.proofs.Tests.{none_of}
use Rattle.names.specs.Names.{name_at, names_of, number_of, name_bad, Named}
use Rattle.names.specs.Index.{Different}
use Rattle.names.proofs.Laws.{length-names, number_le}
use Rattle.faults.proofs.Laws.{reloc_above}
use Rattle.tables.specs.declared.Counts.{Counts as Ceilings}
use Rattle.tables.specs.Tables.{AllHeld}
use Rattle.tables.proofs.Lookups.{partial_is}
use Rattle.tables.specs.Records.{sections_in, symbols_in, relocs_in, partials_in, units_in, floor_from}
use Rattle.load.specs.Load.{Loaded, nothing, names_in, repeated, with_record, record_number, load_from, load_of}
use Rattle.load.specs.Good.{SectionGood, SymbolGood, RelocGood, SplitGood, UnitGood, Good}
use Rattle.load.proofs.Numbers.{NewName, PassedSection, PassedSymbol, PassedReloc, PassedSplit, PassedUnit, Passed, again, name, section, symbol, reloc, split, unit, record_passed}
use Rattle.load.proofs.Growth.{section_good, symbol_good, reloc_good, split_good, unit_good, section_lengths, split_lengths, unit_lengths, symbol_names, symbol_sections, reloc_sections, reloc_symbols, all_still, all_more, all_none, rising_none, rising_more, names-none, named_more}

-- as many names as have a place
pub length-names_in : (file : List ℕ) (t : Loaded) → length (names_in file t) ≡ length t.names
unfolding names_in
length-names_in file t = length-names file t.names t.lengths (length t.names)

-- ---- nothing is loaded
pub good_nothing : (c : Ceilings) (file : List ℕ) → Good c file nothing
good_nothing c file = record {
  within = record {
    names = omega arith;
    sections = omega arith;
    symbols = omega arith;
    relocations = omega arith;
    splits = omega arith;
    units = omega arith;
  };
  names = names-none file;
  sections = all_none;
  symbols = all_none;
  relocations = all_none;
  rising = rising_none;
  splits = all_none;
  units = all_none;
}

-- a column with one place more
one_more : (l : List ℕ) (at n : ℕ) → length l < n → length (l ++ (at ∷ [])) ≤ n
one_more l at n h = simp length-append (omega arith)

more_of : (l : List ℕ) (at : ℕ) → length l ≤ length (l ++ (at ∷ []))
more_of l at = simp length-append (omega arith)

-- ---- a record without a fault
module _ (c : Ceilings) (file : List ℕ) (at len : ℕ) (t : Loaded) (g : Good c file t) (fits : at + len ≤ length file) where
  -- a name that is not repeated is none of those before
  new_number : repeated c file at len t ≡ false
      → number_of (names_of file t.names t.lengths (length t.names)) (take len (drop at file)) ≡ length (names_of file t.names t.lengths (length t.names))
  unfolding repeated names_in
  new_number e =
      let names = names_of file t.names t.lengths (length t.names) in
      let long = length-names file t.names t.lengths (length t.names) in
      let least = ltb-false (number_of names (take len (drop at file))) (length t.names) e in
      omega (arith, number_le names (take len (drop at file)))

  good_repeated : repeated c file at len t ≡ true → Good c file (with_record c file at len t 1)
  unfolding with_record
  good_repeated e = rw e g

  good_name : NewName c file at len t → Good c file (with_record c file at len t 1)
  unfolding with_record
  good_name p = rw p.new (record {
    within = record {
      names = one_more t.names at c.names p.room;
      sections = g.within.sections;
      symbols = g.within.symbols;
      relocations = g.within.relocations;
      splits = g.within.splits;
      units = g.within.units;
    };
    names = named_more file t.names t.lengths at len g.names.measured g.names fits p.good (new_number p.new);
    sections = all_still g.sections (λ s. section_lengths t.lengths len {s = s});
    symbols = all_still g.symbols (λ s. symbol_names {s = s} (more_of t.names at));
    relocations = g.relocations;
    rising = g.rising;
    splits = all_still g.splits (λ s. split_lengths t.lengths len {s = s});
    units = all_still g.units (λ u. unit_lengths t.lengths len {u = u});
  })

  good_section : PassedSection c file at len t → Good c file (with_record c file at len t 2)
  unfolding with_record
  good_section p =
      let more = map-append (section_at file) t.sections (at ∷ []) in record {
        within = record {
          names = g.within.names;
          sections = one_more t.sections at c.sections p.room;
          symbols = g.within.symbols;
          relocations = g.within.relocations;
          splits = g.within.splits;
          units = g.within.units;
        };
        names = g.names;
        sections = all_more g.sections at (omega (arith, p.long)) (section_good t.lengths (section_at file at) p.good);
        symbols = rw more (all_still g.symbols (λ s. symbol_sections (sections_in file t.sections) (section_at file at) {s = s}));
        relocations = rw more (all_still g.relocations (λ r. reloc_sections (sections_in file t.sections) (section_at file at) {r = r}));
        rising = g.rising;
        splits = g.splits;
        units = g.units;
      }

  good_symbol : PassedSymbol c file at len t → Good c file (with_record c file at len t 3)
  unfolding with_record
  good_symbol p = record {
    within = record {
      names = g.within.names;
      sections = g.within.sections;
      symbols = one_more t.symbols at c.symbols p.room;
      relocations = g.within.relocations;
      splits = g.within.splits;
      units = g.within.units;
    };
    names = g.names;
    sections = g.sections;
    symbols = all_more g.symbols at (omega (arith, p.long))
        (symbol_good (length t.names) (sections_in file t.sections) (symbol_at file at) (rw (length-map t.sections (section_at file)) p.good));
    relocations = all_still g.relocations (λ r. reloc_symbols {r = r} (more_of t.symbols at));
    rising = g.rising;
    splits = g.splits;
    units = g.units;
  }

  good_reloc : PassedReloc c file at len t → Good c file (with_record c file at len t 4)
  unfolding with_record
  good_reloc p = record {
    within = record {
      names = g.within.names;
      sections = g.within.sections;
      symbols = g.within.symbols;
      relocations = one_more t.relocations at c.relocations p.room;
      splits = g.within.splits;
      units = g.within.units;
    };
    names = g.names;
    sections = g.sections;
    symbols = g.symbols;
    relocations = all_more g.relocations at (omega (arith, p.long))
        (reloc_good (sections_in file t.sections) (length t.symbols) (floor_from (reloc_at file at).section 0 (relocs_in file t.relocations)) (reloc_at file at) (rw (length-map t.sections (section_at file)) p.good));
    rising = rw (map-append (reloc_at file) t.relocations (at ∷ []))
        (rising_more (relocs_in file t.relocations) (reloc_at file at) g.rising (reloc_above _ _ _ _ (reloc_at file at) p.good));
    splits = g.splits;
    units = g.units;
  }

  good_split : PassedSplit c file at len t → Good c file (with_record c file at len t 5)
  unfolding with_record
  good_split p = record {
    within = record {
      names = g.within.names;
      sections = g.within.sections;
      symbols = g.within.symbols;
      relocations = g.within.relocations;
      splits = one_more t.splits at c.splits p.room;
      units = g.within.units;
    };
    names = g.names;
    sections = g.sections;
    symbols = g.symbols;
    relocations = g.relocations;
    rising = g.rising;
    splits = all_more g.splits at (omega (arith, p.long)) (split_good t.lengths (partial_at 65535 file at) p.good);
    units = g.units;
  }

  good_unit : PassedUnit c file at len t → Good c file (with_record c file at len t 6)
  unfolding with_record
  good_unit p = record {
    within = record {
      names = g.within.names;
      sections = g.within.sections;
      symbols = g.within.symbols;
      relocations = g.within.relocations;
      splits = g.within.splits;
      units = one_more t.units at c.units p.room;
    };
    names = g.names;
    sections = g.sections;
    symbols = g.symbols;
    relocations = g.relocations;
    rising = g.rising;
    splits = g.splits;
    units = all_more g.units at (omega (arith, p.long)) (unit_good t.lengths (unit_at file at) p.good);
  }

  pub good_kind : (kind : ℕ) → Passed c file at len t kind → Good c file (with_record c file at len t kind)
  good_kind _ (again e) = good_repeated e
  good_kind _ (name p) = good_name p
  good_kind _ (section p) = good_section p
  good_kind _ (symbol p) = good_symbol p
  good_kind _ (reloc p) = good_reloc p
  good_kind _ (split p) = good_split p
  good_kind _ (unit p) = good_unit p

-- what is loaded with the record at `at`
abbrev pub next_loaded : (c : Ceilings) (file : List ℕ) (at : ℕ) → Loaded → Loaded
next_loaded c file at t = with_record c file (at + 6) (le32 file at) t (le16 file (at + 4))

pub good_more : (c : Ceilings) (file : List ℕ) (at : ℕ) (t : Loaded) → Good c file t → record_number c file at t ≡ 0 → Good c file (next_loaded c file at t)
good_more c file at t g e =
    let p = record_passed c file at t e in
    good_kind c file (at + 6) (le32 file at) t g p.whole (le16 file (at + 4)) p.passed

-- ---- all that is loaded is good
good_from : (fuel : ℕ) (c : Ceilings) (file : List ℕ) (at r : ℕ) (t u : Loaded) → Good c file t → load_from fuel c file at r t ≡ accepted u → Good c file u
unfolding load_from
good_from zero c file at r t u g e = subst (λ (x : Loaded). Good c file x) (same_accepted e) g
good_from (suc fuel) c file at r t u g e =
    ended (leb (length file) at) refl e (λ h q. good_from fuel c file (at + 6 + le32 file at) (suc r) (next_loaded c file at t) u h q)
  where
    faulty : (b : Bool) → ltb 0 (record_number c file at t) ≡ b
        → cond b (refused (record_number c file at t) 0 r) (load_from fuel c file (at + 6 + le32 file at) (suc r) (next_loaded c file at t)) ≡ accepted u
        → (Good c file (next_loaded c file at t) → load_from fuel c file (at + 6 + le32 file at) (suc r) (next_loaded c file at t) ≡ accepted u → Good c file u)
        → Good c file u
    faulty true p e rest = absurd (not_both e)
    faulty false p e rest =
        let none : record_number c file at t ≡ 0 = omega (arith, ltb-false 0 (record_number c file at t) p) in
        rest (good_more c file at t g none) e

    ended : (b : Bool) → leb (length file) at ≡ b
        → cond b (accepted t)
        (cond (ltb 0 (record_number c file at t)) (refused (record_number c file at t) 0 r)
        (load_from fuel c file (at + 6 + le32 file at) (suc r) (next_loaded c file at t))) ≡ accepted u
        → (Good c file (next_loaded c file at t) → load_from fuel c file (at + 6 + le32 file at) (suc r) (next_loaded c file at t) ≡ accepted u → Good c file u)
        → Good c file u
    ended true p e rest = subst (λ (x : Loaded). Good c file x) (same_accepted e) g
    ended false p e rest = faulty (ltb 0 (record_number c file at t)) refl e rest

pub loaded_good : (c : Ceilings) (file : List ℕ) (t : Loaded) → load_of c file ≡ accepted t → Good c file t
unfolding load_of
loaded_good c file t e = good_from (length file) c file 0 0 nothing t (good_nothing c file) (then_inv _ _ _ _ _ _ e).1

-- a file of more than 65,536 bytes is not accepted
pub loaded_small : (c : Ceilings) (file : List ℕ) (t : Loaded) → load_of c file ≡ accepted t → length file ≤ 65536
unfolding load_of
loaded_small c file t e = ltb-false _ _ (then_inv _ _ _ _ _ _ e).0

-- a partial split is good whatever its number
any_number : (lengths file : List ℕ) (at k : ℕ) → SplitGood lengths (partial_at 65535 file at) → SplitGood lengths (partial_numbered file k at)
unfolding partial_at partial_numbered
any_number lengths file at k g = record { named = g.named; renamed = g.renamed; aligned = g.aligned; flags = g.flags; start = g.start; end = g.end }

-- ---- what the stages take of it, over the lists of the records

module _ {c : Ceilings} {file : List ℕ} {t : Loaded} (g : Good c file t) where
  -- a name that has a length is known
  pub name_known : (k : ℕ) → 0 < get_or t.lengths k 0 → k < length t.names
  name_known k h = omega (arith, has_place t.lengths k h, g.names.measured)

  pub names-named : Named file t.names t.lengths (length t.names)
  names-named = record { placed = omega arith; measured = omega (arith, g.names.measured); inside = g.names.held }

  -- no two names are equal
  pub names_different : Different (names_in file t)
  unfolding names_in
  names_different = g.names.different

  -- "a name 1 to 128 bytes .. a symbol's also empty"
  pub names_short : (k : ℕ) → k < length t.names → get_or t.lengths k 0 ≤ 128
  unfolding name_bad name_at
  names_short k h =
      let part = take (get_or t.lengths k 0) (drop (get_or t.names k 0) file) in
      let short : length part ≤ 128 = ltb-false 128 (length part) (none_of _ 0 (g.names.each k h)) in
      let long = length-take-le (get_or t.lengths k 0) (drop (get_or t.names k 0) file) (simp length-drop (omega (arith, g.names.held k h))) in
      omega arith

  pub good_sections : (k : ℕ) → k < length t.sections → SectionGood t.lengths (get_or (sections_in file t.sections) k no_section)
  good_sections k h = rw (get_or-map (section_at file) t.sections k 0 no_section h) (g.sections.each k h)

  pub good_symbols : (k : ℕ) → k < length t.symbols
      → SymbolGood (length t.names) (sections_in file t.sections) (get_or (symbols_in file t.symbols) k no_symbol)
  good_symbols k h = rw (get_or-map (symbol_at file) t.symbols k 0 no_symbol h) (g.symbols.each k h)

  pub good_relocs : (k : ℕ) → k < length t.relocations
      → RelocGood (sections_in file t.sections) (length t.symbols) (get_or (relocs_in file t.relocations) k no_reloc)
  good_relocs k h = rw (get_or-map (reloc_at file) t.relocations k 0 no_reloc h) (g.relocations.each k h)

  pub good_splits : (k : ℕ) → k < length t.splits → SplitGood t.lengths (get_or (partials_in file t.splits) k no_split)
  good_splits k h = rw (partial_is file t.splits k h) (any_number t.lengths file (get_or t.splits k 0) k (g.splits.each k h))

  pub good_units : (k : ℕ) → k < length t.units → UnitGood t.lengths (get_or (units_in file t.units) k no_unit)
  good_units k h = rw (get_or-map (unit_at file) t.units k 0 no_unit h) (g.units.each k h)

  -- the readers' `AllHeld`, within ceilings that fit 32 bits
  pub held_sections : c.sections ≤ 4294967295 → AllHeld 15 file t.sections
  held_sections h = record { few = omega (arith, g.within.sections); each = g.sections.held }

  pub held_symbols : c.symbols ≤ 4294967295 → AllHeld 20 file t.symbols
  held_symbols h = record { few = omega (arith, g.within.symbols); each = g.symbols.held }

  pub held_relocs : c.relocations ≤ 4294967295 → AllHeld 23 file t.relocations
  held_relocs h = record { few = omega (arith, g.within.relocations); each = g.relocations.held }

  pub held-splits : c.splits ≤ 4294967295 → AllHeld partial_width file t.splits
  held-splits h = record { few = omega (arith, g.within.splits); each = g.splits.held }

  pub held_units : c.units ≤ 4294967295 → AllHeld 8 file t.units
  held_units h = record { few = omega (arith, g.within.units); each = g.units.held }
