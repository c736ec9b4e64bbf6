-- A reader of records looks at `width` bytes from its place on, so it reads in a table of records that were copied one after another what it reads in the file.
-- Said once over the width and the reader, then of each kind. Assumes nothing.
use Prim.Native.Nat.{ℕ, zero, suc, ◌+◌, ◌*◌, ◌/◌, ◌%◌, ◌≤◌, ◌<◌}
use mathlib.Core.Path.{◌≡◌, refl, sym, ap, ◌∙◌}
use mathlib.Core.List.{List, [], ◌∷◌, ◌++◌, map, map-id}
use native.Mathlib.Nat.{mul-zero, mul-suc, mul-div_cancel_left, mul-mod_right, le_of_suc-le-suc, not-suc-le-zero}
use native.Mathlib.Omega.{arith}
use lib.ListN.{length, get_or, take, drop, length-append, length-drop, length-map, get_or-append}
use lib.Seq.{length-take-le, get_or-append-add}
use Rattle.std.proofs.lemmas.List.{get_or-map}
use Rattle.lists.specs.Rows.{tabulate}
use Rattle.lists.proofs.Parts.{tabulate-map, tabulate_list, tabulate_same, get_or-part}
use Rattle.fields.specs.Fields.{le32, signed64, enc32, little}
use Rattle.fields.proofs.Laws.{le32_is, number_at_same, round32}
use Rattle.fields.proofs.Alike.{first16, field16, field32, field64}
use Rattle.obj.specs.Records.{section_at, symbol_at, reloc_at, partial_at, origin_of, partial_numbered, unit_at, stage_places, partial_width}
use Rattle.obj.specs.Laws.{section_same, symbol_same, unit_same}
use Rattle.obj.proofs.Laws.{length-stage_places, stage_place}
use Rattle.obj.specs.declared.Unit as units
use Rattle.tables.specs.Records.{sections_in, symbols_in, relocs_in, partials_in, units_in, image_places_of}
use Rattle.stage_tables.specs.StageTables.{stage_sections, stage_symbols, stage_relocs, stage_partials, stage_units}
use Rattle.load.specs.Load.{Loaded}
use Rattle.symbol_order.specs.Order.{symbol_of}
use Rattle.sections.specs.Sections.{head_of}
use Rattle.relocs.specs.Relocs.{reloc_of}
use Rattle.units.specs.Units.{unit_names}
use Rattle.loaded.specs.Tables.{byte_places, Usable}
use Rattle.loaded.proofs.Laws.{places_small}
use Rattle.file_tables.specs.Tables.{records_at, words, tables_of}

-- the same `width` bytes are the same record
pub record Reads {A : Type 0} (width : ℕ) (read : List ℕ → ℕ → A) : Type 0 where
  pub same : (b c : List ℕ) (i j : ℕ) → ((k : ℕ) → k < width → get_or b (i + k) 0 ≡ get_or c (j + k) 0) → read b i ≡ read c j

pub reads_section : Reads 15 section_at
reads_section = record { same = section_same }

pub reads_symbol : Reads 20 symbol_at
reads_symbol = record { same = symbol_same }

pub reads_reloc : Reads 23 reloc_at
unfolding reloc_at
reads_reloc = record {
  same = λ b c i j same z. record {
    section = first16 23 b c i j same (omega arith) z;
    address = field32 23 b c i j same 2 (omega arith) z;
    kind = same 6 (omega arith) z;
    target = field32 23 b c i j same 7 (omega arith) z;
    addend = signed64 (field64 23 b c i j same 11 (omega arith) z);
    «module» = field32 23 b c i j same 19 (omega arith) z;
  };
}

-- partial record k, whichever k
pub reads_partial : (k : ℕ) → Reads partial_width (λ b at. partial_numbered b k at)
unfolding partial_numbered partial_at
reads_partial k = record {
  same = λ b c i j same z. record {
    section = first16 partial_width b c i j same (omega arith) z;
    start = field32 partial_width b c i j same 2 (omega arith) z;
    end = field32 partial_width b c i j same 6 (omega arith) z;
    unit = field16 partial_width b c i j same 10 (omega arith) z;
    alignment = field32 partial_width b c i j same 12 (omega arith) z;
    flags = same 16 (omega arith) z;
    rename = field16 partial_width b c i j same 17 (omega arith) z;
    origin = origin_of k (same 16 (omega arith) z);
  };
}

pub reads_unit : Reads 8 unit_at
reads_unit = record { same = unit_same }

-- ---- the table of the records at these places, each of which has its bytes in the file
module _ (width : ℕ) (file : List ℕ) where
  front_long : (at : ℕ) → at + width ≤ length file → length (take width (drop at file)) ≡ width
  front_long at h = length-take-le width (drop at file) (simp length-drop (omega arith))

  pub length-records_at : (places : List ℕ) → ((k : ℕ) → k < length places → get_or places k 0 + width ≤ length file) → length (records_at width file places) ≡ width * length places
  unfolding records_at
  length-records_at [] held = sym (mul-zero width)
  length-records_at (at ∷ places) held =
      length-append (take width (drop at file)) (records_at width file places)
      ∙ (let e = length-records_at places (λ k h. held (suc k) (omega arith)) in omega (arith, e, front_long at (held 0 (omega arith)), mul-suc width (length places)))

  -- byte j of record k
  record_byte : (places : List ℕ) → ((k : ℕ) → k < length places → get_or places k 0 + width ≤ length file) → (k j : ℕ) → k < length places → j < width
      → get_or (records_at width file places) (width * k + j) 0 ≡ get_or file (get_or places k 0 + j) 0
  unfolding records_at
  record_byte [] held k j h q = absurd (not-suc-le-zero h)
  record_byte (at ∷ places) held zero j h q =
      ap (λ (m : ℕ). get_or (take width (drop at file) ++ records_at width file places) m 0) (let e : width * 0 + j ≡ j = omega (arith, mul-zero width) in e)
      ∙ get_or-append (take width (drop at file)) (records_at width file places) 0 j (omega (arith, front_long at (held 0 (omega arith))))
      ∙ get_or-part file at width j 0 q
  record_byte (at ∷ places) held (suc k) j h q =
      ap (λ (m : ℕ). get_or (take width (drop at file) ++ records_at width file places) m 0)
      (let e : width * suc k + j ≡ length (take width (drop at file)) + (width * k + j) = omega (arith, mul-suc width k, front_long at (held 0 (omega arith))) in e)
      ∙ get_or-append-add (take width (drop at file)) (records_at width file places) (width * k + j) 0
      ∙ record_byte places (λ i p. held (suc i) (omega arith)) k j (le_of_suc-le-suc h) q

module _ {A : Type 0} (width : ℕ) (read : List ℕ → ℕ → A) (reads : Reads width read) (file places : List ℕ) (wide : 0 < width)
    (held : (k : ℕ) → k < length places → get_or places k 0 + width ≤ length file) where
  -- it has whole records, one for each place
  pub table_whole : length (records_at width file places) % width ≡ 0
  table_whole = ap (λ (n : ℕ). n % width) (length-records_at width file places held) ∙ mul-mod_right width (length places)

  pub table-count : length (records_at width file places) / width ≡ length places
  table-count = ap (λ (n : ℕ). n / width) (length-records_at width file places held) ∙ mul-div_cancel_left (length places) wide

  -- record k is the file's
  pub record_is : (k : ℕ) → k < length places → read (records_at width file places) (width * k) ≡ read file (get_or places k 0)
  record_is k h = reads.same (records_at width file places) file (width * k) (get_or places k 0) (λ j q. record_byte width file places held k j h q)

  pub stage_record : (k : ℕ) → k < length places
      → read (records_at width file places) (get_or (stage_places width (length (records_at width file places) / width)) k 0) ≡ read file (get_or places k 0)
  stage_record k h =
      ap (read (records_at width file places)) (stage_place width (length (records_at width file places) / width) k (omega (arith, h, table-count))) ∙ record_is k h

  -- THEOREM: the records of the table are those of the file
  pub records_back : map (read (records_at width file places)) (stage_places width (length (records_at width file places) / width)) ≡ map (read file) places
  unfolding stage_places
  records_back =
      ap (λ (n : ℕ). map (read (records_at width file places)) (stage_places width n)) table-count
      ∙ sym (tabulate-map (read (records_at width file places)) (λ k. width * k) (λ k. read (records_at width file places) (width * k)) 0 (length places) (λ j m q. refl))
      ∙ tabulate_list (read file) (λ k. read (records_at width file places) (width * k)) places 0 record_is

-- ---- the places of the sections' bytes, four bytes each

pub length-words : (l : List ℕ) → length (words l) ≡ 4 * length l
unfolding words
length-words [] = refl
length-words (x ∷ l) = length-append (enc32 x) (words l) ∙ (let e = length-words l in omega (arith, e))

word_at : (l : List ℕ) (k : ℕ) → k < length l → get_or l k 0 < 4294967296 → le32 (words l) (4 * k) ≡ get_or l k 0
unfolding words
word_at [] k h small = absurd (not-suc-le-zero h)
word_at (x ∷ l) zero h small = round32 x small
word_at (x ∷ l) (suc k) h small =
    le32_is (enc32 x ++ words l) (4 * suc k)
    ∙ number_at_same little 4 (enc32 x ++ words l) (words l) (4 * suc k) (4 * k)
    (λ j q.
    ap (λ (m : ℕ). get_or (enc32 x ++ words l) m 0) (let e : 4 * suc k + j ≡ length (enc32 x) + (4 * k + j) = omega arith in e)
    ∙ get_or-append-add (enc32 x) (words l) (4 * k + j) 0)
    ∙ sym (le32_is (words l) (4 * k))
    ∙ word_at l k (le_of_suc-le-suc h) small

-- THEOREM: numbers of 32 bits that were written are read back
pub words_back : (l : List ℕ) → ((k : ℕ) → k < length l → get_or l k 0 < 4294967296) → image_places_of (words l) ≡ l
unfolding image_places_of
words_back l small =
    ap (tabulate (λ k. le32 (words l) (4 * k)) 0) (let e : length (words l) / 4 ≡ length l = omega (arith, length-words l) in e)
    ∙ tabulate_list (λ x. x) (λ k. le32 (words l) (4 * k)) l 0 (λ k h. word_at l k h (small k h))
    ∙ map-id l

-- ---- the tables of an accepted file
module _ {file : List ℕ} {t : Loaded} (u : Usable file t) where
  -- sections
  pub sections_long : length (tables_of file t).sections ≡ 15 * length t.sections
  sections_long = length-records_at 15 file t.sections u.good.sections.held

  pub sections_count : length (tables_of file t).sections / 15 ≡ length t.sections
  sections_count = table-count 15 section_at reads_section file t.sections (omega arith) u.good.sections.held

  pub sections_whole : length (tables_of file t).sections % 15 ≡ 0
  sections_whole = table_whole 15 section_at reads_section file t.sections (omega arith) u.good.sections.held

  pub section_is : (k : ℕ) → k < length t.sections
      → head_of (tables_of file t).sections (stage_places 15 (length (tables_of file t).sections / 15)) k ≡ head_of file t.sections k
  section_is = stage_record 15 section_at reads_section file t.sections (omega arith) u.good.sections.held

  pub sections_back : stage_sections (tables_of file t).sections ≡ sections_in file t.sections
  sections_back = records_back 15 section_at reads_section file t.sections (omega arith) u.good.sections.held

  -- symbols
  pub symbols_long : length (tables_of file t).symbols ≡ 20 * length t.symbols
  symbols_long = length-records_at 20 file t.symbols u.good.symbols.held

  pub symbols_count : length (tables_of file t).symbols / 20 ≡ length t.symbols
  symbols_count = table-count 20 symbol_at reads_symbol file t.symbols (omega arith) u.good.symbols.held

  pub symbols_whole : length (tables_of file t).symbols % 20 ≡ 0
  symbols_whole = table_whole 20 symbol_at reads_symbol file t.symbols (omega arith) u.good.symbols.held

  pub symbol_is : (k : ℕ) → k < length t.symbols
      → symbol_of (tables_of file t).symbols (stage_places 20 (length (tables_of file t).symbols / 20)) k ≡ symbol_of file t.symbols k
  symbol_is = stage_record 20 symbol_at reads_symbol file t.symbols (omega arith) u.good.symbols.held

  pub symbols_back : stage_symbols (tables_of file t).symbols ≡ symbols_in file t.symbols
  symbols_back = records_back 20 symbol_at reads_symbol file t.symbols (omega arith) u.good.symbols.held

  -- relocations
  pub relocs_long : length (tables_of file t).relocations ≡ 23 * length t.relocations
  relocs_long = length-records_at 23 file t.relocations u.good.relocations.held

  pub relocs_count : length (tables_of file t).relocations / 23 ≡ length t.relocations
  relocs_count = table-count 23 reloc_at reads_reloc file t.relocations (omega arith) u.good.relocations.held

  pub relocs_whole : length (tables_of file t).relocations % 23 ≡ 0
  relocs_whole = table_whole 23 reloc_at reads_reloc file t.relocations (omega arith) u.good.relocations.held

  pub reloc_is : (k : ℕ) → k < length t.relocations
      → reloc_of (tables_of file t).relocations (stage_places 23 (length (tables_of file t).relocations / 23)) k ≡ reloc_of file t.relocations k
  reloc_is = stage_record 23 reloc_at reads_reloc file t.relocations (omega arith) u.good.relocations.held

  pub relocs_back : stage_relocs (tables_of file t).relocations ≡ relocs_in file t.relocations
  relocs_back = records_back 23 reloc_at reads_reloc file t.relocations (omega arith) u.good.relocations.held

  -- partial splits
  pub partials_long : length (tables_of file t).partials ≡ partial_width * length t.splits
  partials_long = length-records_at partial_width file t.splits u.good.splits.held

  pub partials_count : length (tables_of file t).partials / partial_width ≡ length t.splits
  partials_count = table-count partial_width (λ b at. partial_numbered b 0 at) (reads_partial 0) file t.splits (omega arith) u.good.splits.held

  pub partials_whole : length (tables_of file t).partials % partial_width ≡ 0
  partials_whole = table_whole partial_width (λ b at. partial_numbered b 0 at) (reads_partial 0) file t.splits (omega arith) u.good.splits.held

  pub partials_back : stage_partials (tables_of file t).partials ≡ partials_in file t.splits
  partials_back =
      let table = (tables_of file t).partials in
      let at : ℕ → ℕ = λ k. get_or (stage_places partial_width (length table / partial_width)) k 0 in
      ap (tabulate (λ k. partial_numbered table k (at k)) 0) (length-stage_places partial_width (length table / partial_width) ∙ partials_count)
      ∙ tabulate_same (λ k. partial_numbered table k (at k)) (λ k. partial_numbered file k (get_or t.splits k 0)) 0 (length t.splits)
      (λ k m q. stage_record partial_width (λ b i. partial_numbered b k i) (reads_partial k) file t.splits (omega arith) u.good.splits.held k (omega arith))

  -- units
  pub units_long : length (tables_of file t).units ≡ 8 * length t.units
  units_long = length-records_at 8 file t.units u.good.units.held

  pub units_count : length (tables_of file t).units / 8 ≡ length t.units
  units_count = table-count 8 unit_at reads_unit file t.units (omega arith) u.good.units.held

  pub units_whole : length (tables_of file t).units % 8 ≡ 0
  units_whole = table_whole 8 unit_at reads_unit file t.units (omega arith) u.good.units.held

  pub units_back : stage_units (tables_of file t).units ≡ units_in file t.units
  units_back = records_back 8 unit_at reads_unit file t.units (omega arith) u.good.units.held

  -- the units' names alone, as the walk takes them
  pub unit_names_back : unit_names (tables_of file t).units (stage_places 8 (length (tables_of file t).units / 8)) ≡ unit_names file t.units
  unit_names_back =
      records_back 8 (λ b at. (unit_at b at).name)
      (record { same = λ b c i j same. ap (λ (x : units.Unit). x.name) (reads_unit.same b c i j same) })
      file t.units (omega arith) u.good.units.held

  -- THEOREM: the sections' bytes lie where they lie in the file
  pub places_back : image_places_of (tables_of file t).places ≡ byte_places t.sections
  places_back =
      words_back (byte_places t.sections)
      (λ k h.
      let q : k < length t.sections = omega (arith, h, length-map t.sections (λ place. place + 15)) in
      omega (arith, get_or-map (λ place. place + 15) t.sections k 0 0 q, places_small u k q))
