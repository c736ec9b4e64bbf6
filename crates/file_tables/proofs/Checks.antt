-- The tables of an accepted file pass the checks of stage tables: what is known of each record is that none of its kind's tests holds. Names may have come behind the file's:
-- a record that refers to a name of the file finds the same length. Assumes nothing.
use Prim.Native.Nat.{ℕ, zero, suc, ◌+◌, ◌/◌, ◌%◌, ◌≤◌, ◌<◌}
use mathlib.Core.Path.{◌≡◌, refl, sym, ap, ap₂, ◌∙◌}
use mathlib.Core.Bool.{Bool, true, false, cond, not, ◌&&◌}
use mathlib.Core.List.{List, [], ◌++◌, map}
use mathlib.Core.Logic.{◌⊎◌, inl, inr, ◌≢◌}
use native.Mathlib.Omega.{arith}
use borrow.Author.Tests.{le-ltb, lt-leb, eq-eqb, eqb-true, eqb-false}
use lib.Dec.{eqb, ltb, leb}
use lib.ListN.{length, get_or, take, drop, length-append, length-drop, length-map, get_or-append}
use lib.Seq.{length-take-le}
use Rattle.std.proofs.lemmas.List.{get_or-map}
use Rattle.lists.specs.Outcome.{accepted}
use Rattle.lists.specs.Rows.{any_of, any_from}
use Rattle.lists.proofs.Binds.{after_goes}
use Rattle.lists.proofs.Compare.{above-eqb}
use Rattle.obj.specs.Records.{section_at, reloc_at, partial_width}
use Rattle.obj.specs.declared.Section.{Section}
use Rattle.obj.specs.declared.Symbol.{Symbol}
use Rattle.obj.specs.declared.Reloc.{Reloc}
use Rattle.obj.specs.declared.Split.{Split}
use Rattle.obj.specs.declared.Unit as units
use Rattle.obj.specs.Nothing.{no_section, no_symbol, no_reloc, no_split, no_unit}
use Rattle.names.specs.Names.{name_at}
use Rattle.names.proofs.Laws.{length-names, name_there}
use Rattle.faults.specs.Faults.{section_bad, symbol_bad, reloc_bad, split_bad, unit_bad}
use Rattle.tables.specs.Tables.{size_check}
use Rattle.tables.specs.Records.{sections_in, symbols_in, relocs_in, partials_in, units_in, bytes_cut, floor_from, section_fault, image_fault, symbol_fault, reloc_fault_above, reloc_fault, partial_fault, unit_fault}
use Rattle.tables.proofs.Loops.{size_good}
use Rattle.tables.proofs.Laws.{records_pass}
use Rattle.tables.proofs.Floors.{floor_more}
use Rattle.stage_tables.specs.StageTables.{table_check, stage_sections, sections_check, image_check, symbols_check, relocs_check, partials_check, units_check}
use Rattle.load.specs.Load.{Loaded, names_in}
use Rattle.load.specs.Good.{SectionGood, SymbolGood, RelocGood, SplitGood, UnitGood}
use Rattle.load.proofs.Laws.{name_known, good_sections, good_symbols, good_relocs, good_splits, good_units}
use Rattle.sections.specs.Sections.{head_of}
use Rattle.loaded.specs.Tables.{byte_places, Usable}
use Rattle.loaded.proofs.Laws.{few_sections, few_symbols, few_relocs, few_splits, few_units, sections_kept}
use Rattle.file_tables.specs.Tables.{tables_of}
use Rattle.file_tables.proofs.Records.{sections_count, sections_whole, sections_back, symbols_count, symbols_whole, symbols_back, relocs_count, relocs_whole, relocs_back, partials_count, partials_whole, partials_back, units_count, units_whole, units_back, places_back}

-- ---- a table passes
pub table_passes : (width ceiling : ℕ) (b : List ℕ) (fault : ℕ → ℕ) (n : ℕ) → length b % width ≡ 0 → length b / width ≡ n → n ≤ ceiling → ((k : ℕ) → k < n → fault k ≡ 0)
    → table_check width ceiling b fault ≡ accepted tt
unfolding table_check
table_passes width ceiling b fault n whole count few none =
    after_goes (size_check width ceiling (length b)) _ (sym (size_good width ceiling (length b) whole (omega (arith, count))))
    ∙ records_pass fault (length b / width) (λ k h. none k (omega (arith, h, count)))

-- ---- a good record has no fault

pub section_faultless : (lengths : List ℕ) (s : Section) → SectionGood lengths s → section_bad (get_or lengths s.name 0) s ≡ false
unfolding section_bad any_of any_from
section_faultless lengths s g =
    rw (
      le-ltb 4026531840 (s.address + s.size) g.end,
      le-ltb 3 s.kind g.kind,
      above-eqb (get_or lengths s.name 0) g.named,
      le-ltb 64 (get_or lengths s.name 0) g.short,
    )

-- what is asked only where the number is not the one that means none
asked : (n none : ℕ) (test : Bool) → (n ≢ none → test ≡ false) → (not (eqb n none) && test) ≡ false
asked n none test h = go (eqb n none) refl
  where
    go : (t : Bool) → eqb n none ≡ t → (not t && test) ≡ false
    go true e = refl
    go false e = h (eqb-false n none e)

pub symbol_faultless : (names : ℕ) (sections : List Section) (s : Symbol) → SymbolGood names sections s
    → symbol_bad names (length sections) (get_or sections s.section no_section) s ≡ false
unfolding symbol_bad any_of any_from
symbol_faultless names sections s g =
    rw (
      asked s.section 65535 (leb (length sections) s.section) (λ n. lt-leb _ _ (home n).0),
      lt-leb names s.name g.name,
      le-ltb 3 s.kind g.kind,
      le-ltb 1 s.size_known g.size_known,
      asked s.section 65535 (ltb s.address (get_or sections s.section no_section).address) (λ n. le-ltb _ _ (home n).1),
      asked s.section 65535 (ltb ((get_or sections s.section no_section).address + (get_or sections s.section no_section).size) s.address) (λ n. le-ltb _ _ (home n).2),
      le-ltb 4026531840 (s.address + s.size) g.end,
      g.aligned,
    )
  where
    home : s.section ≢ 65535
        → (s.section < length sections)
        × ((get_or sections s.section no_section).address ≤ s.address)
        × (s.address ≤ (get_or sections s.section no_section).address + (get_or sections s.section no_section).size)
    home n = go g.home
      where
        go : (s.section ≡ 65535)
            ⊎ ((s.section < length sections)
            × ((get_or sections s.section no_section).address ≤ s.address)
            × (s.address ≤ (get_or sections s.section no_section).address + (get_or sections s.section no_section).size))
            → (s.section < length sections)
            × ((get_or sections s.section no_section).address ≤ s.address)
            × (s.address ≤ (get_or sections s.section no_section).address + (get_or sections s.section no_section).size)
        go (inl e) = absurd (n e)
        go (inr h) = h

pub reloc_faultless : (sections : List Section) (symbols floor : ℕ) (r : Reloc) → RelocGood sections symbols r → floor ≤ r.address
    → reloc_bad (length sections) symbols (get_or sections r.section no_section) floor r ≡ false
unfolding reloc_bad any_of any_from
reloc_faultless sections symbols floor r g above =
    rw (
      le-ltb 6 r.kind g.kind,
      lt-leb (length sections) r.section g.section,
      lt-leb symbols r.target g.target,
      eq-eqb (r.address % 4) 0 g.fours,
      le-ltb r.address (get_or sections r.section no_section).address g.start,
      lt-leb ((get_or sections r.section no_section).address + (get_or sections r.section no_section).size) r.address g.before_end,
      le-ltb r.address floor above,
    )

pub split_faultless : (lengths : List ℕ) (s : Split) → SplitGood lengths s → split_bad (get_or lengths s.unit 0) (get_or lengths s.rename 0) s ≡ false
unfolding split_bad any_of any_from
split_faultless lengths s g =
    rw (
      above-eqb (get_or lengths s.unit 0) g.named,
      asked s.rename 65535 (eqb (get_or lengths s.rename 0) 0) (λ n. above-eqb _ (g.renamed n)),
      g.aligned,
      le-ltb 7 s.flags g.flags,
      le-ltb 4026531840 s.start g.start,
      le-ltb 4026531840 s.end g.end,
    )

pub unit_faultless : (lengths : List ℕ) (u : units.Unit) → UnitGood lengths u → unit_bad (get_or lengths u.name 0) u ≡ false
unfolding unit_bad any_of any_from
unit_faultless lengths u g =
    rw (above-eqb (get_or lengths u.name 0) g.named, le-ltb 1 u.autogenerated g.autogenerated, le-ltb 1 u.has_order g.has_order)

-- ---- the floor of a section does not pass what its relocations are below
floor_le : (section bound : ℕ) (relocs : List Reloc) (k : ℕ) → k ≤ length relocs
    → ((i : ℕ) → i < k → (get_or relocs i no_reloc).section ≡ section → (get_or relocs i no_reloc).address < bound) → floor_from section 0 (take k relocs) ≤ bound
unfolding floor_from
floor_le section bound relocs zero h below = omega arith
floor_le section bound relocs (suc k) h below =
    rw (floor_more section relocs k h) (go (eqb (get_or relocs k no_reloc).section section) refl (floor_le section bound relocs k (omega arith) (λ i q e. below i (omega arith) e)))
  where
    go : (t : Bool) → eqb (get_or relocs k no_reloc).section section ≡ t → floor_from section 0 (take k relocs) ≤ bound
        → cond t (suc (get_or relocs k no_reloc).address) (floor_from section 0 (take k relocs)) ≤ bound
    go true e before = below k (omega arith) (eqb-true (get_or relocs k no_reloc).section section e)
    go false e before = before

-- ---- the tables of an accepted file, whose names may have come more behind
module _ {file : List ℕ} {t : Loaded} (u : Usable file t) (names more : List (List ℕ)) (extends : names ≡ names_in file t ++ more) where
  many : length (names_in file t) ≡ length t.names
  unfolding names_in
  many = length-names file t.names t.lengths (length t.names)

  pub names_more : length t.names ≤ length names
  names_more = omega (arith, ap length extends, length-append (names_in file t) more, many)

  -- a name of the file still has its number
  pub name_still : (k : ℕ) → k < length t.names → get_or names k [] ≡ name_at file t.names t.lengths k
  unfolding names_in
  name_still k h =
      ap (λ (l : List (List ℕ)). get_or l k []) extends
      ∙ get_or-append (names_in file t) more [] k (omega (arith, h, many))
      ∙ name_there file t.names t.lengths (length t.names) k h

  -- .. and its length
  pub length_still : (k : ℕ) → k < length t.names → get_or (map length names) k 0 ≡ get_or t.lengths k 0
  unfolding name_at
  length_still k h =
      get_or-map length names k [] 0 (omega (arith, names_more))
      ∙ ap length (name_still k h)
      ∙ length-take-le (get_or t.lengths k 0) (drop (get_or t.names k 0) file) (simp length-drop (omega (arith, u.good.names.held k h)))

  length_known : (k : ℕ) → 0 < get_or t.lengths k 0 → get_or (map length names) k 0 ≡ get_or t.lengths k 0
  length_known k h = length_still k (name_known u.good k h)

  -- ---- sections
  section_still : (s : Section) → SectionGood t.lengths s → SectionGood (map length names) s
  section_still s g =
      let e = length_known s.name g.named in
      record { end = g.end; kind = g.kind; named = omega (arith, e, g.named); short = omega (arith, e, g.short) }

  section_none : (k : ℕ) → k < length t.sections → section_fault (map length names) (sections_in file t.sections) k ≡ 0
  unfolding section_fault
  section_none k h = rw (section_faultless (map length names) (get_or (sections_in file t.sections) k no_section) (section_still _ (good_sections u.good k h)))

  -- THEOREM: the sections pass
  pub sections_pass : sections_check 64 (map length names) (tables_of file t).sections ≡ accepted tt
  sections_pass =
      ap (λ (l : List Section). table_check 15 64 (tables_of file t).sections (section_fault (map length names) l)) (sections_back u)
      ∙ table_passes 15 64 (tables_of file t).sections (section_fault (map length names) (sections_in file t.sections)) (length t.sections)
      (sections_whole u) (sections_count u) (few_sections u) section_none

  -- each has its bytes in the file
  not_cut : (k : ℕ) → k < length t.sections → bytes_cut (byte_places t.sections) (length file) k (get_or (sections_in file t.sections) k no_section) ≡ false
  unfolding bytes_cut any_of any_from
  not_cut k h =
      let lies = (sections_kept u).lies k h in
      rw (get_or-map (section_at file) t.sections k 0 no_section h)
      (asked (head_of file t.sections k).kind 3 _
      (λ n.
      rw (
        lt-leb (length (byte_places t.sections)) k (lies.there n),
        le-ltb (length file) (get_or (byte_places t.sections) k 0 + (head_of file t.sections k).size) (lies.inside n),
      )))

  image_none : (k : ℕ) → k < length t.sections → image_fault (map length names) (byte_places t.sections) (length file) (sections_in file t.sections) k ≡ 0
  unfolding image_fault
  image_none k h = rw (not_cut k h) (section_none k h)

  -- THEOREM: .. with their bytes in the file
  pub image_pass : image_check 64 (map length names) (tables_of file t).places (length file) (tables_of file t).sections ≡ accepted tt
  image_pass =
      ap₂ (λ (places : List ℕ) (l : List Section). table_check 15 64 (tables_of file t).sections (image_fault (map length names) places (length file) l))
      (places_back u) (sections_back u)
      ∙ table_passes 15 64 (tables_of file t).sections (image_fault (map length names) (byte_places t.sections) (length file) (sections_in file t.sections))
      (length t.sections) (sections_whole u) (sections_count u) (few_sections u) image_none

  -- ---- symbols
  symbol_none : (k : ℕ) → k < length t.symbols → symbol_fault (length names) (sections_in file t.sections) (symbols_in file t.symbols) k ≡ 0
  unfolding symbol_fault
  symbol_none k h =
      let g = good_symbols u.good k h in
      rw (symbol_faultless (length names) (sections_in file t.sections) (get_or (symbols_in file t.symbols) k no_symbol) (record {
        name = omega (arith, g.name, names_more);
        kind = g.kind;
        size_known = g.size_known;
        home = g.home;
        end = g.end;
        aligned = g.aligned;
      }))

  -- THEOREM: the symbols pass
  pub symbols_pass : symbols_check 4096 (length names) (stage_sections (tables_of file t).sections) (tables_of file t).symbols ≡ accepted tt
  symbols_pass =
      ap₂ (λ (l : List Section) (s : List Symbol). table_check 20 4096 (tables_of file t).symbols (symbol_fault (length names) l s)) (sections_back u) (symbols_back u)
      ∙ table_passes 20 4096 (tables_of file t).symbols (symbol_fault (length names) (sections_in file t.sections) (symbols_in file t.symbols)) (length t.symbols)
      (symbols_whole u) (symbols_count u) (few_symbols u) symbol_none

  -- ---- partial splits
  split_still : (s : Split) → SplitGood t.lengths s → SplitGood (map length names) s
  split_still s g = record {
    named = omega (arith, length_known s.unit g.named, g.named);
    renamed = λ n. omega (arith, length_known s.rename (g.renamed n), g.renamed n);
    aligned = g.aligned;
    flags = g.flags;
    start = g.start;
    end = g.end;
  }

  partial_none : (k : ℕ) → k < length t.splits → partial_fault (map length names) (partials_in file t.splits) k ≡ 0
  unfolding partial_fault
  partial_none k h = rw (split_faultless (map length names) (get_or (partials_in file t.splits) k no_split) (split_still _ (good_splits u.good k h)))

  -- THEOREM: the partial splits pass
  pub partials_pass : partials_check 1024 (map length names) (tables_of file t).partials ≡ accepted tt
  partials_pass =
      ap (λ (l : List Split). table_check partial_width 1024 (tables_of file t).partials (partial_fault (map length names) l)) (partials_back u)
      ∙ table_passes partial_width 1024 (tables_of file t).partials (partial_fault (map length names) (partials_in file t.splits)) (length t.splits)
      (partials_whole u) (partials_count u) (few_splits u) partial_none

  -- ---- units
  unit_still : (x : units.Unit) → UnitGood t.lengths x → UnitGood (map length names) x
  unit_still x g = record { named = omega (arith, length_known x.name g.named, g.named); autogenerated = g.autogenerated; has_order = g.has_order }

  pub unit_none : (k : ℕ) → k < length t.units → unit_fault (map length names) (units_in file t.units) k ≡ 0
  unfolding unit_fault
  unit_none k h = rw (unit_faultless (map length names) (get_or (units_in file t.units) k no_unit) (unit_still _ (good_units u.good k h)))

  -- THEOREM: the units pass
  pub units_pass : units_check 1024 (map length names) (tables_of file t).units ≡ accepted tt
  units_pass =
      ap (λ (l : List units.Unit). table_check 8 1024 (tables_of file t).units (unit_fault (map length names) l)) (units_back u)
      ∙ table_passes 8 1024 (tables_of file t).units (unit_fault (map length names) (units_in file t.units)) (length t.units)
      (units_whole u) (units_count u) (few_units u) unit_none

-- ---- relocations, which refer to no name
module _ {file : List ℕ} {t : Loaded} (u : Usable file t) where
  reloc_above : (k : ℕ) → k < length t.relocations
      → floor_from (get_or (relocs_in file t.relocations) k no_reloc).section 0 (take k (relocs_in file t.relocations)) ≤ (get_or (relocs_in file t.relocations) k no_reloc).address
  reloc_above k h =
      let long : length (relocs_in file t.relocations) ≡ length t.relocations = length-map t.relocations (reloc_at file) in
      floor_le (get_or (relocs_in file t.relocations) k no_reloc).section _ (relocs_in file t.relocations) k (omega (arith, long))
      (λ i q e. u.good.rising.rise i k q (omega (arith, long)) e)

  reloc_none : (k : ℕ) → k < length t.relocations → reloc_fault (sections_in file t.sections) (length t.symbols) (relocs_in file t.relocations) k ≡ 0
  unfolding reloc_fault reloc_fault_above
  reloc_none k h =
      let r = get_or (relocs_in file t.relocations) k no_reloc in
      rw (reloc_faultless (sections_in file t.sections) (length t.symbols) (floor_from r.section 0 (take k (relocs_in file t.relocations))) r
      (good_relocs u.good k h) (reloc_above k h))

  -- THEOREM: the relocations pass
  pub relocs_pass : relocs_check 4096 (stage_sections (tables_of file t).sections) (length (tables_of file t).symbols / 20) (tables_of file t).relocations ≡ accepted tt
  relocs_pass =
      ap (λ (n : ℕ). relocs_check 4096 (stage_sections (tables_of file t).sections) n (tables_of file t).relocations) (symbols_count u)
      ∙ ap₂ (λ (l : List Section) (r : List Reloc). table_check 23 4096 (tables_of file t).relocations (reloc_fault l (length t.symbols) r)) (sections_back u) (relocs_back u)
      ∙ table_passes 23 4096 (tables_of file t).relocations (reloc_fault (sections_in file t.sections) (length t.symbols) (relocs_in file t.relocations))
      (length t.relocations) (relocs_whole u) (relocs_count u) (few_relocs u) reloc_none
