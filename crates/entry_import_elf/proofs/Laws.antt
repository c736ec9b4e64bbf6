-- The steps of the entry. Assumes nothing.
use mathlib.Core.Path.{◌≡◌, refl, sym, ap, ap₂, subst, ◌∙◌}
use mathlib.Core.List.{List, [], ◌∷◌, map}
use Prim.Native.Nat.{ℕ, ◌*◌, ◌-◌, ◌/◌, ◌≤◌, ◌<◌}
use native.Mathlib.Omega.{arith}
use borrow.Author.Tests.{lt-ltb, le-ltb}
use lib.ListN.{length, replicate, get_or, take}
use lib.Seq.{sets, length-sets}
use Rattle.lists.specs.Outcome.{Outcome, accepted, refused, ◌>>◌}
use Rattle.lists.proofs.Outcomes.{fails, passes, then_stops, then_goes}
use Rattle.lists.proofs.Binds.{after_goes, after-stops, bind_goes, bind_stops}
use Rattle.lists.proofs.Rows.{length-tabulate}
use Rattle.lists.proofs.Stores.{take-sets}
use Rattle.obj.specs.Answers.{Answer, word}
use Rattle.std.specs.Prelude.{Result, Ok, Err}
use Rattle.outputs.specs.Outputs.{store_counts}
use Rattle.kept_output.specs.Kept.{kept_of}
use Rattle.obj.specs.declared.Refusal.{Refusal}
use Rattle.obj.specs.declared.Section.{Section}
use Rattle.stage_names.specs.StageNames.{flat, name_ends}
use Rattle.stage_names.proofs.Fits.{long_halves}
use Rattle.elf_file.specs.File.{header_table, count, header_of, taken, section_strings, entries_of, symbol_entries, symbol_strings, file_check}
use Rattle.stage_tables.specs.StageTables.{stage_sections, symbols_check, image_check}
use Rattle.number_names.specs.Numbers.{names_in, Laid, Known}
use Rattle.name_table.specs.Stored.{stage_lengths, Stored}
use Rattle.name_table.specs.NameTable.{names_check}
use Rattle.number_names.proofs.Laid.{names_back, count_back}
use Rattle.import.specs.Import.{Rooms, Tables, names_of, tables_of, tables_check, import_of}
use Rattle.import_names.specs.Numbered.{NumberedAll}
use Rattle.number_names.specs.declared.Count.{Count}
use Rattle.import.proofs.Sections.{taken-below, symbol_bytes, sections_count, places_count}
use Rattle.import_rows.specs.Taken.{Numbers}
use Rattle.import_rows.specs.Rows.{head_of, place_of, symbol_of, sections_table, places_table, symbols_table}
use Rattle.entry_import_elf.specs.Entry.{Leaves}
use Rattle.entry_import_elf.specs.Structs.{CountedIn, SameRows}
use Rattle.entry_import_elf.specs.Stages.{symbols_stage, image_stage, sections_stage, SymbolsGiven, RowsWritten, RowsGiven, Written, TablesWritten}
use Rattle.entry_import_elf.specs.declared.Imported.{Imported}
use Rattle.entry_import_elf.specs.declared.Rows.{Rows}
use Rattle.entry_import_elf.specs.declared.RowOutputs.{RowOutputs}

-- ---- outputs and counts

-- a table written at the front is read back whole
pub front : (out₀ want : List ℕ) {out : List ℕ} {n : ℕ} → out ≡ sets out₀ 0 want → n ≡ length want → n ≤ length out₀ → take n out ≡ want
front out₀ want e q h = ap₂ take q e ∙ take-sets out₀ want (omega arith)

pub count_entries : (table : List ℕ) → length (entries_of table) ≡ length table / 16 - 1
unfolding entries_of
count_entries table = length-tabulate _ 1 (length table / 16 - 1)

-- ---- the symbols

module _ (file : List ℕ) (names : List (List ℕ)) where
  pub names_are : (tables_of file names).names ≡ names
  unfolding tables_of
  names_are = refl

  -- what was written is the table of the symbols
  pub symbols_written : {table strings numbers : List ℕ} → table ≡ symbol_bytes file → strings ≡ symbol_strings file → numbers ≡ taken (header_table file)
      → symbols_table (map (symbol_of names strings numbers) (entries_of table)) ≡ symbols_table (tables_of file names).symbols
  unfolding tables_of symbol_entries
  symbols_written et es en = λ z. symbols_table (map (symbol_of names (es z) (en z)) (entries_of (et z)))

module _ (room : ℕ) (t : Tables) where
  -- too many
  pub symbols_many : {n : ℕ} → n ≡ length t.symbols → room < n → refused 2 0 room ≡ symbols_stage room t
  unfolding symbols_stage
  symbols_many e h = sym (fails 2 0 room _ _ (lt-ltb room (length t.symbols) (omega (arith, e))))

  -- they are asked
  pub symbols_asked : {n : ℕ} {ends symbols : List ℕ} {sections : List Section} {w : Outcome (Unit {0})} → n ≡ length t.symbols → n ≤ room
      → w ≡ symbols_check 4096 (length ends / 2) sections symbols
      → ends ≡ name_ends t.names → sections ≡ stage_sections (sections_table t.sections) → symbols ≡ symbols_table t.symbols
      → w ≡ symbols_stage room t
  unfolding symbols_stage
  symbols_asked e h said m s q =
      said
      ∙ (λ z. symbols_check 4096 (length (m z) / 2) (s z) (q z))
      ∙ sym (passes 2 0 room _ _ (le-ltb room (length t.symbols) (omega (arith, e))))

-- the same outcome, said otherwise
pub given_as : {o want : Outcome (Unit {0})} (t : Tables) (symbols₀ symbols : List ℕ) (r : Result ℕ Refusal) → o ≡ want
    → SymbolsGiven o t symbols₀ symbols r → SymbolsGiven want t symbols₀ symbols r
given_as t symbols₀ symbols (Ok n) q g = record { said = sym q ∙ g.said; written = g.written; counted = g.counted; few = g.few }
given_as t symbols₀ symbols (Err e) q g = sym q ∙ g

-- ---- the sections

module _ (file : List ℕ) (names : List (List ℕ)) where
  -- what was written are the tables of the sections and of their places
  pub sections_written : {headers strings numbers : List ℕ} → headers ≡ header_table file → strings ≡ section_strings file → numbers ≡ taken (header_table file)
      → sections_table (map (λ k. head_of names strings (header_of headers k)) numbers) ≡ sections_table (tables_of file names).sections
  unfolding tables_of
  sections_written eh es en = λ z. sections_table (map (λ k. head_of names (es z) (header_of (eh z) k)) (en z))

  pub places_written : {headers numbers : List ℕ} → headers ≡ header_table file → numbers ≡ taken (header_table file)
      → places_table (map (λ k. place_of (header_of headers k)) numbers) ≡ places_table (tables_of file names).places
  unfolding tables_of
  places_written eh en = λ z. places_table (map (λ k. place_of (header_of (eh z) k)) (en z))

-- the numbers of the sections taken over are numbers of sections
pub numbers_of : (headers numbers : List ℕ) → numbers ≡ taken headers → Numbers headers numbers
numbers_of headers numbers e = record {
  each = λ k q. subst (λ (l : List ℕ). get_or l k 0 < count headers) (sym e) (taken-below headers k (subst (λ (l : List ℕ). k < length l) e q));
}

pub numbers_as : {headers want numbers : List ℕ} → headers ≡ want → Numbers want numbers → Numbers headers numbers
numbers_as {headers} {want} {numbers} e n = subst (λ (l : List ℕ). Numbers l numbers) (sym e) n

module _ (file room symbols : ℕ) (t : Tables) where
  -- too many
  pub sections_many : {n : ℕ} → n ≡ length t.sections → room < n → refused 2 0 room ≡ sections_stage file room symbols t
  unfolding sections_stage
  sections_many e h = sym (fails 2 0 room _ _ (lt-ltb room (length t.sections) (omega (arith, e))))

  -- they are asked
  pub sections_asked : {n : ℕ} → n ≡ length t.sections → n ≤ room → image_stage file symbols t ≡ sections_stage file room symbols t
  unfolding sections_stage
  sections_asked e h = sym (passes 2 0 room _ _ (le-ltb room (length t.sections) (omega (arith, e))))

  -- an image that is refused, and one that is accepted
  module _ {w : Outcome (Unit {0})} (said : w ≡ image_check 64 (stage_lengths (name_ends t.names) (flat t.names)) (places_table t.places) file (sections_table t.sections)) where
    pub image_stops : {number section address : ℕ} → w ≡ refused number section address → w ≡ image_stage file symbols t
    unfolding image_stage
    image_stops e = then_stops said _ e

    pub image_goes : w ≡ accepted tt → symbols_stage symbols t ≡ image_stage file symbols t
    unfolding image_stage
    image_goes e = then_goes said _ e

-- the image as the code asks it is the tables'
pub image_said : (file : ℕ) (t : Tables) {lengths places sections : List ℕ} {w : Outcome (Unit {0})} → w ≡ image_check 64 lengths places file sections
    → lengths ≡ stage_lengths (name_ends t.names) (flat t.names) → places ≡ places_table t.places → sections ≡ sections_table t.sections
    → w ≡ image_check 64 (stage_lengths (name_ends t.names) (flat t.names)) (places_table t.places) file (sections_table t.sections)
image_said file t said m p s = said ∙ (λ z. image_check 64 (m z) (p z) file (s z))

pub rows_as : {o want : Outcome (Unit {0})} (t : Tables) (sections₀ places₀ symbols₀ sections places symbols : List ℕ) (r : Result Rows Refusal) → o ≡ want
    → RowsGiven o t sections₀ places₀ symbols₀ sections places symbols r → RowsGiven want t sections₀ places₀ symbols₀ sections places symbols r
rows_as t sections₀ places₀ symbols₀ sections places symbols (Ok r) q g = record {
  said = sym q ∙ g.said;
  sections_written = g.sections_written;
  places_written = g.places_written;
  symbols_written = g.symbols_written;
  sections_counted = g.sections_counted;
  symbols_counted = g.symbols_counted;
  few_sections = g.few_sections;
  few_symbols = g.few_symbols;
}
rows_as t sections₀ places₀ symbols₀ sections places symbols (Err e) q g = sym q ∙ g

-- ---- the names

-- the names as the code asks them are the tables'
pub names_said : (t : Tables) {ends bytes : List ℕ} {w : Outcome (Unit {0})} → w ≡ names_check 4096 ends bytes
    → ends ≡ name_ends t.names → bytes ≡ flat t.names → w ≡ names_check 4096 (name_ends t.names) (flat t.names)
names_said t said e b = said ∙ (λ z. names_check 4096 (e z) (b z))

module _ (file : ℕ) (room : Rooms) (t : Tables) {w : Outcome (Unit {0})} (said : w ≡ names_check 4096 (name_ends t.names) (flat t.names)) where
  pub names_stop : {number section address : ℕ} → w ≡ refused number section address → w ≡ tables_check file room t
  unfolding tables_check
  names_stop e = then_stops said _ e

  pub names_go : w ≡ accepted tt → sections_stage file room.sections room.symbols t ≡ tables_check file room t
  unfolding tables_check sections_stage image_stage symbols_stage
  names_go e = then_goes said _ e

-- the names of a name table that passed
module _ {names : List (List ℕ)} {ends bytes places lengths heads chain : List ℕ} (l : Laid names ends bytes) (s : Stored ends bytes places lengths heads chain (length ends / 2)) where
  pub laid_names : names_in ends bytes ≡ names
  laid_names = names_back l (length ends / 2) (count_back l)

  pub stored_known : {first next : List ℕ} → first ≡ heads → next ≡ chain → Known (names_in ends bytes) ends bytes first next
  stored_known f n = record { laid = subst (λ (x : List (List ℕ)). Laid x ends bytes) (sym laid_names) l; index = rw (f, n) s.index }

-- ---- the whole import

module _ (file : List ℕ) (room : Rooms) where
  -- the file is refused
  pub file_stops : {w : Outcome (Unit {0})} {number section address : ℕ} → w ≡ file_check file → w ≡ refused number section address → import_of file room ≡ refused number section address
  unfolding import_of
  file_stops e q = after-stops (file_check file) _ _ _ _ (sym e ∙ q)

  module _ {w : Outcome (Unit {0})} (e : w ≡ file_check file) (q : w ≡ accepted tt) where
    -- a name has no place
    pub names_refused : {number section address : ℕ} → names_of file room.names ≡ refused number section address → import_of file room ≡ refused number section address
    unfolding import_of
    names_refused n = after_goes (file_check file) _ (sym e ∙ q) ∙ bind_stops (names_of file room.names) _ _ _ _ n

    -- all have one: the tables are asked
    module _ (names : List (List ℕ)) (n : names_of file room.names ≡ accepted names) where
      import_is : import_of file room ≡ (tables_check (length file) room (tables_of file names) >> accepted (tables_of file names))
      unfolding import_of
      import_is = after_goes (file_check file) _ (sym e ∙ q) ∙ bind_goes (names_of file room.names) _ names n

      -- a table is refused, or all are accepted
      pub import_refused : {number section address : ℕ} → tables_check (length file) room (tables_of file names) ≡ refused number section address → import_of file room ≡ refused number section address
      import_refused r = import_is ∙ after-stops (tables_check (length file) room (tables_of file names)) _ _ _ _ r

      pub import_accepted : tables_check (length file) room (tables_of file names) ≡ accepted tt → import_of file room ≡ accepted (tables_of file names)
      import_accepted a = import_is ∙ after_goes (tables_check (length file) room (tables_of file names)) _ a

-- names that were numbered lie in the table
pub numbered-laid : {o : Outcome (List (List ℕ))} {ends₀ bytes₀ ends bytes : List ℕ} {r : Count} (n : NumberedAll o ends₀ bytes₀ ends bytes r) → Laid n.names (take (2 * r.names) ends) (take r.used bytes)
numbered-laid {o} {ends₀} {bytes₀} {ends} {bytes} {r} n =
    let long = long_halves 0 n.names in record {
      ends_are = front ends₀ (name_ends n.names) n.ends_are (omega (arith, long, n.counted)) n.ends_fit;
      bytes_are = front bytes₀ (flat n.names) n.bytes_are n.sum n.bytes_fit;
      small = omega (arith, n.sum, n.small);
    }

pub numbered_ends : {o : Outcome (List (List ℕ))} {ends₀ bytes₀ ends bytes : List ℕ} {r : Count} → NumberedAll o ends₀ bytes₀ ends bytes r → length ends ≡ length ends₀
numbered_ends {o} {ends₀} n = ap length n.ends_are ∙ length-sets ends₀ 0 (name_ends n.names)

pub numbered_bytes : {o : Outcome (List (List ℕ))} {ends₀ bytes₀ ends bytes : List ℕ} {r : Count} → NumberedAll o ends₀ bytes₀ ends bytes r → length bytes ≡ length bytes₀
numbered_bytes {o} {ends₀} {bytes₀} n = ap length n.bytes_are ∙ length-sets bytes₀ 0 (flat n.names)

-- the tables of an accepted import
pub tables-written : (file : List ℕ) {o : Outcome (List (List ℕ))} {ends₀ bytes₀ sections₀ places₀ symbols₀ ends bytes sections places symbols : List ℕ} {k : Count} {g : Rows} {checks : Outcome (Unit {0})}
    → (n : NumberedAll o ends₀ bytes₀ ends bytes k)
    → RowsWritten checks (tables_of file n.names) sections₀ places₀ symbols₀ sections places symbols g
    → Written (tables_of file n.names) ends₀ bytes₀ sections₀ places₀ symbols₀ ends bytes sections places symbols
    (record { names = k; rows = g })
tables-written file {ends₀ = ends₀} {bytes₀ = bytes₀} n g = record {
  ends_written = n.ends_are ∙ ap (λ (x : List (List ℕ)). sets ends₀ 0 (name_ends x)) same;
  bytes_written = n.bytes_are ∙ ap (λ (x : List (List ℕ)). sets bytes₀ 0 (flat x)) same;
  sections_written = g.sections_written;
  places_written = g.places_written;
  symbols_written = g.symbols_written;
  names-counted = n.counted ∙ ap (λ (x : List (List ℕ)). length x) same;
  used-counted = n.sum ∙ ap (λ (x : List (List ℕ)). length (flat x)) same;
  sections_counted = g.sections_counted;
  places_counted = g.sections_counted ∙ sections_count file n.names ∙ sym (places_count file n.names);
  symbols_counted = g.symbols_counted;
}
  where
    same : n.names ≡ (tables_of file n.names).names
    same = sym (names_are file n.names)

-- ---- what the entry leaves

module _ {o : Outcome Tables} (ends₀ bytes₀ sections₀ places₀ symbols₀ counts₀ : List ℕ) where
  -- an accepted import: its tables at the front
  pub leaves_tables : {r : Imported} {ends bytes sections places symbols counts : List ℕ}
      → TablesWritten o ends₀ bytes₀ sections₀ places₀ symbols₀ ends bytes sections places symbols r
      → counts ≡ store_counts 0 (r.names.names ∷ r.names.used ∷ r.rows.sections ∷ r.rows.sections ∷ r.rows.symbols ∷ []) counts₀
      → Leaves o 0 ends₀ bytes₀ sections₀ places₀ symbols₀ counts₀ ends bytes sections places symbols counts
  leaves_tables g f =
      let v = g.written in
      let said = g.said in
      rw said (record {
        answered = refl;
        ends_left = v.ends_written;
        bytes_left = v.bytes_written;
        sections_left = v.sections_written;
        places_left = v.places_written;
        symbols_left = v.symbols_written;
        counts_left =
            f ∙ (λ z. store_counts 0 (v.names-counted z ∷ v.used-counted z ∷ v.sections_counted z ∷ v.places_counted z ∷ v.symbols_counted z ∷ []) counts₀);
      })

-- the end of the entry: the tables stay, and after a refusal all is zeros
pub leaves : {o : Outcome Tables} (a : Answer) (ends₁ bytes₁ counts₁ : List ℕ) {ends₀ bytes₀ counts₀ ends bytes sections places symbols counts : List ℕ} {before after : RowOutputs} {answer : ℕ}
    → CountedIn o ends₀ bytes₀ before counts₀ ends₁ bytes₁ after counts₁ a → SameRows before after → length ends₁ ≡ length ends₀ → length bytes₁ ≡ length bytes₀
    → answer ≡ word a → ends ≡ kept_of ends₁ a → bytes ≡ kept_of bytes₁ a
    → sections ≡ kept_of after.sections.now a → places ≡ kept_of after.places.now a → symbols ≡ kept_of after.symbols.now a → counts ≡ kept_of counts₁ a
    → Leaves o answer ends₀ bytes₀ before.sections.now before.places.now before.symbols.now counts₀ ends bytes sections places symbols counts
leaves (Ok u) ends₁ bytes₁ counts₁ given same e b w f g h i j k = rw (w, f, g, h, i, j, k) given
leaves (Err r) ends₁ bytes₁ counts₁ given same e b w f g h i j k = rw given.0 (record {
  answered = w;
  ends_left = f ∙ ap (λ (n : ℕ). replicate n 0) e;
  bytes_left = g ∙ ap (λ (n : ℕ). replicate n 0) b;
  sections_left = h ∙ ap (λ (n : ℕ). replicate n 0) same.sections_size;
  places_left = i ∙ ap (λ (n : ℕ). replicate n 0) same.places_size;
  symbols_left = j ∙ ap (λ (n : ℕ). replicate n 0) same.symbols_size;
  counts_left = k ∙ ap (λ (l : List ℕ). replicate (length l) 0) given.1;
})
