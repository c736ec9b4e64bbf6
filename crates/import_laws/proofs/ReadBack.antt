-- The records of an accepted import are read back from its tables: what the other entries read there are just the definition's sections and symbols. The file is bytes, each below 256.
-- Assumes nothing.
use mathlib.Core.Path.{◌≡◌, refl, sym, ap, subst, ◌∙◌}
use mathlib.Core.List.{List, [], ◌∷◌, ◌++◌, map}
use mathlib.Core.Bool.{Bool, true, false, cond}
use Prim.Native.Nat.{ℕ, zero, suc, ◌+◌, ◌*◌, ◌-◌, ◌/◌, ◌≤◌, ◌<◌}
use native.Mathlib.Nat.{not-suc-le-zero, le_of_suc-le-suc, zero-add, mul-zero, mul-suc}
use native.Mathlib.Omega.{arith}
use lib.ListN.{length, get_or, take, drop, get_or-append}
use lib.Seq.{take_all, get_or-append-add}
use lib.Dec.{eqb, ltb}
use borrow.Author.Tests.{ltb-true}
use Rattle.lists.specs.Rows.{first_in}
use Rattle.lists.proofs.Outcomes.{then_both, then_inv}
use Rattle.lists.proofs.Rows.{get_d_tabulate}
use Rattle.lists.specs.Outcome.{accepted}
use Rattle.lists.proofs.Mapping.{tabulate-take}
use Rattle.lists.proofs.Parts.{tabulate-map}
use Rattle.lists.specs.Bounds.{Bytes}
use Rattle.fields.specs.Fields.{le16, le32, enc32, little}
use Rattle.fields.proofs.Laws.{round16, round32, number_at_same, le16_is, le32_is}
use Rattle.obj.specs.Records.{section_at, symbol_at, stage_places}
use Rattle.obj.specs.Bytes.{section_record, symbol_record}
use Rattle.obj.specs.Laws.{length-section_record, length-symbol_record}
use Rattle.obj.specs.declared.Section.{Section}
use Rattle.obj.specs.declared.Symbol.{Symbol}
use Rattle.obj.specs.Nothing.{no_section, no_symbol}
use Rattle.tables.specs.Records.{image_places_of}
use Rattle.stage_tables.specs.StageTables.{stage_sections, stage_symbols}
use Rattle.stage_names.specs.StageNames.{flat, name_ends}
use Rattle.stage_names.proofs.Fits.{long_halves}
use Rattle.stage_tables.proofs.Laws.{table_passed}
use Rattle.name_table.specs.NameTable.{names_check}
use Rattle.name_table.proofs.Laws.{names_passed}
use Rattle.names.proofs.Laws.{number_le}
use Rattle.big_endian.specs.BigEndian.{be32}
use Rattle.elf.specs.Elf.{header_at, section_header_at, symbol_entry_at}
use Rattle.elf.specs.Strings.{string_at}
use Rattle.elf_file.specs.File.{outside, bytes_in, header_table, header_of, no_bits, taken, section_strings, symbol_table, symbol_strings}
use Rattle.import.specs.Import.{Rooms, Tables, tables_of, tables_check, import_of}
use Rattle.import.proofs.Sections.{made_of, symbol_bytes, sections_count, places_count, section_is, place_is, symbols_count, symbol_is}
use Rattle.import_laws.proofs.Theorems.{accepted_import}
use Rattle.import_rows.specs.Rows.{head_of, place_of, reserved, home_of, symbol_of, sections_table, places_table, symbols_table}
use Rattle.import_rows.proofs.Laws.{long_sections, long_places, long_symbols}

-- ---- a table of records of one width

-- byte i of record k
record_byte : {A : Type 0} (rec : A → List ℕ) (w : ℕ) → ((x : A) → length (rec x) ≡ w) → (l : List A) (k : ℕ) (d : A) → k < length l → (i at : ℕ) → i < w → at ≡ w * k + i
    → get_or (flat (map rec l)) at 0 ≡ get_or (rec (get_or l k d)) i 0
unfolding flat
record_byte rec w long [] k d h i at q e = absurd (not-suc-le-zero h)
record_byte rec w long (x ∷ l) zero d h i at q e =
    ap (λ (j : ℕ). get_or (rec x ++ flat (map rec l)) j 0) (e ∙ ap (λ (m : ℕ). m + i) (mul-zero w) ∙ zero-add i) ∙ get_or-append (rec x) (flat (map rec l)) 0 i (omega (arith, long x))
record_byte rec w long (x ∷ l) (suc k) d h i at q e =
    let there : at ≡ length (rec x) + (w * k + i) =
    e ∙ ap (λ (m : ℕ). m + i) (mul-suc w k) ∙ swap (w * k) w i ∙ ap (λ (m : ℕ). m + (w * k + i)) (sym (long x)) in
    ap (λ (j : ℕ). get_or (rec x ++ flat (map rec l)) j 0) there
    ∙ get_or-append-add (rec x) (flat (map rec l)) (w * k + i) 0
    ∙ record_byte rec w long l k d (le_of_suc-le-suc h) i (w * k + i) q refl
  where
    swap : (a b c : ℕ) → a + b + c ≡ b + (a + c)
    swap a b c = omega arith

-- ---- numbers that fit their fields

pub record SectionFits (s : Section) : Type 0 where
  pub name : s.name < 65536
  pub address : s.address < 4294967296
  pub size : s.size < 4294967296
  pub offset : s.offset < 4294967296

pub record SymbolFits (s : Symbol) : Type 0 where
  pub name : s.name < 65536
  pub section : s.section < 65536
  pub address : s.address < 4294967296
  pub size : s.size < 4294967296
  pub flags : s.flags < 65536
  pub alignment : s.alignment < 4294967296

-- equal bytes, equal numbers
le16_same : (s t : List ℕ) (p q : ℕ) → ((j : ℕ) → j < 2 → get_or s (p + j) 0 ≡ get_or t (q + j) 0) → le16 s p ≡ le16 t q
le16_same s t p q h = le16_is s p ∙ number_at_same little 2 s t p q h ∙ sym (le16_is t q)

le32_same : (s t : List ℕ) (p q : ℕ) → ((j : ℕ) → j < 4 → get_or s (p + j) 0 ≡ get_or t (q + j) 0) → le32 s p ≡ le32 t q
le32_same s t p q h = le32_is s p ∙ number_at_same little 4 s t p q h ∙ sym (le32_is t q)

-- ---- a record is read back

module _ (l : List Section) (k : ℕ) (h : k < length l) (f : SectionFits (get_or l k no_section)) where
  section_byte : (i at : ℕ) → i < 15 → at ≡ 15 * k + i → get_or (sections_table l) at 0 ≡ get_or (section_record (get_or l k no_section)) i 0
  section_byte i at q e = record_byte section_record 15 length-section_record l k no_section h i at q e

  section_word : (i : ℕ) → i + 4 ≤ 15 → le32 (sections_table l) (15 * k + i) ≡ le32 (section_record (get_or l k no_section)) i
  section_word i q = le32_same (sections_table l) (section_record (get_or l k no_section)) (15 * k + i) i (λ j p. section_byte (i + j) (15 * k + i + j) (omega arith) (omega arith))

  pub section_row : section_at (sections_table l) (15 * k) ≡ get_or l k no_section
  unfolding section_at section_record
  section_row =
      let s = get_or l k no_section in
      let name = le16_same (sections_table l) (section_record s) (15 * k) 0 (λ j p. section_byte (0 + j) (15 * k + j) (omega arith) (omega arith)) ∙ round16 s.name f.name in
      let address = section_word 3 (omega arith) ∙ round32 s.address f.address in
      let size = section_word 7 (omega arith) ∙ round32 s.size f.size in
      let offset = section_word 11 (omega arith) ∙ round32 s.offset f.offset in
      let kind = section_byte 2 (15 * k + 2) (omega arith) refl in
      λ z. record { name = name z; kind = kind z; address = address z; size = size z; offset = offset z }

module _ (l : List Symbol) (k : ℕ) (h : k < length l) (f : SymbolFits (get_or l k no_symbol)) where
  symbol_byte : (i at : ℕ) → i < 20 → at ≡ 20 * k + i → get_or (symbols_table l) at 0 ≡ get_or (symbol_record (get_or l k no_symbol)) i 0
  symbol_byte i at q e = record_byte symbol_record 20 length-symbol_record l k no_symbol h i at q e

  symbol_half : (i : ℕ) → i + 2 ≤ 20 → le16 (symbols_table l) (20 * k + i) ≡ le16 (symbol_record (get_or l k no_symbol)) i
  symbol_half i q = le16_same (symbols_table l) (symbol_record (get_or l k no_symbol)) (20 * k + i) i (λ j p. symbol_byte (i + j) (20 * k + i + j) (omega arith) (omega arith))

  symbol_word : (i : ℕ) → i + 4 ≤ 20 → le32 (symbols_table l) (20 * k + i) ≡ le32 (symbol_record (get_or l k no_symbol)) i
  symbol_word i q = le32_same (symbols_table l) (symbol_record (get_or l k no_symbol)) (20 * k + i) i (λ j p. symbol_byte (i + j) (20 * k + i + j) (omega arith) (omega arith))

  pub symbol_row : symbol_at (symbols_table l) (20 * k) ≡ get_or l k no_symbol
  unfolding symbol_at symbol_record
  symbol_row =
      let s = get_or l k no_symbol in
      let name = le16_same (symbols_table l) (symbol_record s) (20 * k) 0 (λ j p. symbol_byte (0 + j) (20 * k + j) (omega arith) (omega arith)) ∙ round16 s.name f.name in
      let section = symbol_half 2 (omega arith) ∙ round16 s.section f.section in
      let address = symbol_word 4 (omega arith) ∙ round32 s.address f.address in
      let size = symbol_word 8 (omega arith) ∙ round32 s.size f.size in
      let known = symbol_byte 12 (20 * k + 12) (omega arith) refl in
      let kind = symbol_byte 13 (20 * k + 13) (omega arith) refl in
      let flags = symbol_half 14 (omega arith) ∙ round16 s.flags f.flags in
      let alignment = symbol_word 16 (omega arith) ∙ round32 s.alignment f.alignment in
      λ z. record { name = name z; section = section z; address = address z; size = size z; size_known = known z; kind = kind z; flags = flags z; alignment = alignment z }

-- a place of four bytes
pub place_row : (l : List ℕ) (k : ℕ) → k < length l → get_or l k 0 < 4294967296 → get_or (image_places_of (places_table l)) k 0 ≡ get_or l k 0
unfolding image_places_of
place_row l k h f =
    let many : length (places_table l) / 4 ≡ length l = omega (arith, long_places l) in
    let byte : (i : ℕ) → i < 4 → get_or (places_table l) (4 * k + i) 0 ≡ get_or (enc32 (get_or l k 0)) (0 + i) 0 =
    λ i q. record_byte (λ p. enc32 p) 4 (λ p. refl) l k 0 h (0 + i) (4 * k + i) (omega arith) (omega arith) in
    get_d_tabulate (λ j. le32 (places_table l) (4 * j)) 0 (length (places_table l) / 4) k 0 (omega (arith, many))
    ∙ ap (λ (j : ℕ). le32 (places_table l) (4 * j)) (zero-add k)
    ∙ le32_same (places_table l) (enc32 (get_or l k 0)) (4 * k) 0 byte
    ∙ round32 (get_or l k 0) f

-- ---- whole tables

pub sections_back : (l : List Section) → ((k : ℕ) → k < length l → SectionFits (get_or l k no_section)) → stage_sections (sections_table l) ≡ l
unfolding stage_places
sections_back l f =
    let many : length (sections_table l) / 15 ≡ length l = omega (arith, long_sections l) in
    sym (tabulate-map (section_at (sections_table l)) (λ k. 15 * k) (λ k. section_at (sections_table l) (15 * k)) 0 (length (sections_table l) / 15) (λ j a b. refl))
    ∙ tabulate-take (λ k. section_at (sections_table l) (15 * k)) (length (sections_table l) / 15) l no_section (omega (arith, many)) (λ k h. section_row l k (omega (arith, many)) (f k (omega (arith, many))))
    ∙ take_all (length (sections_table l) / 15) l (omega (arith, many))

pub symbols_back : (l : List Symbol) → ((k : ℕ) → k < length l → SymbolFits (get_or l k no_symbol)) → stage_symbols (symbols_table l) ≡ l
unfolding stage_places
symbols_back l f =
    let many : length (symbols_table l) / 20 ≡ length l = omega (arith, long_symbols l) in
    sym (tabulate-map (symbol_at (symbols_table l)) (λ k. 20 * k) (λ k. symbol_at (symbols_table l) (20 * k)) 0 (length (symbols_table l) / 20) (λ j a b. refl))
    ∙ tabulate-take (λ k. symbol_at (symbols_table l) (20 * k)) (length (symbols_table l) / 20) l no_symbol (omega (arith, many)) (λ k h. symbol_row l k (omega (arith, many)) (f k (omega (arith, many))))
    ∙ take_all (length (symbols_table l) / 20) l (omega (arith, many))

-- ---- a file of bytes

small_drop : (n : ℕ) (l : List ℕ) → Bytes l → Bytes (drop n l)
small_drop zero l b = b
small_drop (suc n) [] b = b
small_drop (suc n) (x ∷ l) b = small_drop n l (λ k. b (suc k))

small_take : (n : ℕ) (l : List ℕ) → Bytes l → Bytes (take n l)
small_take zero l b k = omega arith
small_take (suc n) [] b k = b k
small_take (suc n) (x ∷ l) b zero = b 0
small_take (suc n) (x ∷ l) b (suc k) = small_take n l (λ j. b (suc j)) k

small_part : (file : List ℕ) (offset size : ℕ) → Bytes file → Bytes (bytes_in file offset size)
unfolding bytes_in
small_part file offset size b = go (outside (length file) offset size)
  where
    go : (t : Bool) → Bytes (cond t [] (take size (drop offset file)))
    go true k = omega arith
    go false k = small_take size (drop offset file) (small_drop offset file b) k

be32_small : (s : List ℕ) (at : ℕ) → Bytes s → be32 s at < 4294967296
be32_small s at b = omega (arith, b at, b (at + 1), b (at + 2), b (at + 3))

home_small : (numbers : List ℕ) (shndx : ℕ) → length numbers ≤ 65535 → home_of numbers shndx < 65536
unfolding home_of
home_small numbers shndx few = go (reserved shndx) (ltb (first_in (λ k. eqb k shndx) numbers) (length numbers)) refl
  where
    go : (t u : Bool) → ltb (first_in (λ k. eqb k shndx) numbers) (length numbers) ≡ u → cond t 65535 (cond u (first_in (λ k. eqb k shndx) numbers) 65535) < 65536
    go true u e = omega arith
    go false true e = omega (arith, ltb-true (first_in (λ k. eqb k shndx) numbers) (length numbers) e)
    go false false e = omega arith

one_or_none : (t : Bool) → cond t 1 0 < 65536
one_or_none true = omega arith
one_or_none false = omega arith

-- ---- the tables of a file

module _ (file : List ℕ) (names : List (List ℕ)) (few : length names ≤ 4096) (bytes : Bytes file) where
  section_fits : (j : ℕ) → j < length (tables_of file names).sections → SectionFits (get_or (tables_of file names).sections j no_section)
  unfolding head_of header_of section_header_at header_table
  section_fits j h =
      let small = small_part file (header_at file).shoff (40 * (header_at file).shnum) bytes in
      let k = get_or (taken (header_table file)) j 0 in
      subst SectionFits (sym (section_is file names j (omega (arith, sections_count file names))))
      (record {
        name = omega (arith, few, number_le names (string_at (section_strings file) (header_of (header_table file) k).name));
        address = be32_small (header_table file) (40 * k + 12) small;
        size = be32_small (header_table file) (40 * k + 20) small;
        offset = be32_small (header_table file) (40 * k + 16) small;
      })

  -- the sections that another entry reads in the table are those of the definition
  pub sections_read : stage_sections (sections_table (tables_of file names).sections) ≡ (tables_of file names).sections
  sections_read = sections_back (tables_of file names).sections section_fits

  -- .. and so are the places of their bytes
  pub places_read : (j : ℕ) → j < length (tables_of file names).places → get_or (image_places_of (places_table (tables_of file names).places)) j 0 ≡ get_or (tables_of file names).places j 0
  unfolding place_of header_of section_header_at header_table
  places_read j h =
      let small = small_part file (header_at file).shoff (40 * (header_at file).shnum) bytes in
      let k = get_or (taken (header_table file)) j 0 in
      let place = place_is file names j (omega (arith, places_count file names)) in
      place_row (tables_of file names).places j h
      (subst (λ (p : ℕ). p < 4294967296) (sym place) (one_of (no_bits (made_of file j)) (be32_small (header_table file) (40 * k + 16) small)))
    where
      one_of : {n : ℕ} (t : Bool) → n < 4294967296 → cond t 0 n < 4294967296
      one_of true h = omega arith
      one_of false h = h

  -- .. and, where there are at most 64 sections, the symbols
  symbol_fits : length (tables_of file names).sections ≤ 64 → (j : ℕ) → j < length (tables_of file names).symbols → SymbolFits (get_or (tables_of file names).symbols j no_symbol)
  unfolding symbol_of symbol_entry_at
  symbol_fits most j h =
      let header = symbol_table (header_table file) in
      let small = small_part file header.offset header.size bytes in
      let s = symbol_entry_at (symbol_bytes file) (16 * (1 + j)) in
      subst SymbolFits (sym (symbol_is file names j (omega (arith, symbols_count file names))))
      (record {
        name = omega (arith, few, number_le names (string_at (symbol_strings file) s.name));
        section = home_small (taken (header_table file)) s.shndx (omega (arith, most, sections_count file names));
        address = be32_small (symbol_bytes file) (16 * (1 + j) + 4) small;
        size = be32_small (symbol_bytes file) (16 * (1 + j) + 8) small;
        flags = one_or_none (eqb (s.info / 16) 0);
        alignment = omega arith;
      })

  pub symbols_read : length (tables_of file names).sections ≤ 64 → stage_symbols (symbols_table (tables_of file names).symbols) ≡ (tables_of file names).symbols
  symbols_read most = symbols_back (tables_of file names).symbols (symbol_fits most)

-- ---- an accepted import

module _ (file : List ℕ) (room : Rooms) (t : Tables) (e : import_of file room ≡ accepted t) (bytes : Bytes file) where
  -- no more names and sections than document 01's ceilings
  few_names : length t.names ≤ 4096
  unfolding tables_check
  few_names =
      let a = accepted_import file room t e in
      let p = then_both (names_check 4096 (name_ends t.names) (flat t.names)) _ tt a.passed in
      omega (arith, (names_passed 4096 (name_ends t.names) (flat t.names) p.0).few, long_halves 0 t.names)

  few_sections : length t.sections ≤ 64
  unfolding tables_check
  few_sections =
      let a = accepted_import file room t e in
      let p = then_both (names_check 4096 (name_ends t.names) (flat t.names)) _ tt a.passed in
      let q = then_inv 2 0 room.sections _ _ tt p.1 in
      let s = then_both _ _ tt q.1 in
      omega (arith, (table_passed 15 64 (sections_table t.sections) _ s.0).1, long_sections t.sections)

  -- the names are those that the tables were made with
  same : (accepted_import file room t e).names ≡ t.names
  unfolding tables_of
  same = let a = accepted_import file room t e in sym (ap (λ (x : Tables). x.names) a.tables)

  made : tables_of file t.names ≡ t
  made = let a = accepted_import file room t e in ap (tables_of file) (sym same) ∙ sym a.tables

  -- the sections and symbols that another entry reads in the tables are those of the definition
  pub import_sections_back : stage_sections (sections_table t.sections) ≡ t.sections
  import_sections_back = subst (λ (x : Tables). stage_sections (sections_table x.sections) ≡ x.sections) made (sections_read file t.names few_names bytes)

  pub import_symbols_back : stage_symbols (symbols_table t.symbols) ≡ t.symbols
  import_symbols_back =
      subst (λ (x : Tables). stage_symbols (symbols_table x.symbols) ≡ x.symbols) made
      (symbols_read file t.names few_names bytes (subst (λ (x : Tables). length x.sections ≤ 64) (sym made) few_sections))

  -- symbol j is made of entry j + 1
  pub symbol_made : (j : ℕ) → j < length t.symbols
      → get_or t.symbols j no_symbol ≡ symbol_of t.names (symbol_strings file) (taken (header_table file)) (symbol_entry_at (symbol_bytes file) (16 * (1 + j)))
  symbol_made j h =
      let many : length t.symbols ≡ length (symbol_bytes file) / 16 - 1 = ap (λ (x : Tables). length x.symbols) (sym made) ∙ symbols_count file t.names in
      ap (λ (x : Tables). get_or x.symbols j no_symbol) (sym made) ∙ symbol_is file t.names j (omega (arith, many))
