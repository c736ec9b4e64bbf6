-- The answer is never 1: names that were numbered are laid down one behind the other, the tables are whole records, and an allocated section's bytes lie in the file by 89. The file
-- is bytes, each below 256, and names have place for no more than 65,535 bytes, as in every call of the entry. Assumes nothing.
use mathlib.Core.Path.{◌≡◌, refl, sym, ap, subst, ◌∙◌}
use mathlib.Core.List.{List, [], ◌∷◌, ◌++◌}
use mathlib.Core.Bool.{Bool, true, false, cond, not, ◌&&◌}
use Prim.Native.Nat.{ℕ, ◌+◌, ◌*◌, ◌/◌, ◌%◌, ◌≤◌, ◌<◌, zero-le}
use native.Mathlib.Omega.{arith}
use borrow.Author.Tests.{eq-eqb, le-ltb, lt-leb, ltb-true, ltb-false}
use lib.ListN.{length, get_or, length-append}
use lib.Dec.{eqb, leb, ltb}
use Rattle.lists.specs.Rows.{any_of}
use Rattle.lists.specs.Outcome.{Outcome, accepted, refused, refuse, ◌>>◌, ◌>>=◌}
use Rattle.lists.proofs.Outcomes.{bind_inv}
use Rattle.lists.proofs.Rows.{length-tabulate}
use Rattle.lists.proofs.Tests.{none_of}
use Rattle.lists.specs.Bounds.{Bytes}
use Rattle.fields.specs.Fields.{le32}
use Rattle.obj.specs.Answers.{place}
use Rattle.obj.specs.declared.Section.{Section}
use Rattle.obj.specs.declared.Symbol.{Symbol}
use Rattle.obj.specs.Nothing.{no_section, no_symbol}
use Rattle.faults.specs.Faults.{section_bad, symbol_bad}
use Rattle.names.specs.Names.{number_of}
use Rattle.tables.specs.Tables.{size_check, first_fault, records_check}
use Rattle.tables.specs.Records.{image_places_of, bytes_cut, section_fault, image_fault, symbol_fault}
use Rattle.tables.proofs.Laws.{bss_not_cut}
use Rattle.name_table.specs.NameTable.{start_of, end_of, name_cut, name_wrong, name_fault, names_check}
use Rattle.name_table.proofs.Laws.{names_passed}
use Rattle.stage_names.specs.StageNames.{flat, name_ends}
use Rattle.stage_names.proofs.Fits.{long_halves}
use Rattle.stage_tables.specs.StageTables.{stage_sections, stage_symbols, table_check, image_check, symbols_check}
use Rattle.elf_file.specs.File.{header_table, taken, no_bits, section_strings, file_check}
use Rattle.elf_file.proofs.Laws.{Passed, file_passed}
use Rattle.number_names.specs.Numbers.{Room, no_place, enter_name, enter_names, Laid}
use Rattle.number_names.proofs.Laid.{count_back, start_back, end_back}
use Rattle.number_names.proofs.Laws.{enter_cases, flat_more}
use Rattle.import_rows.specs.Rows.{kind_of, head_of, place_of, sections_table, places_table, symbols_table}
use Rattle.import_rows.proofs.Laws.{long_sections, long_places, long_symbols}
use Rattle.import.specs.Import.{Rooms, names_of, tables_of, tables_check, import_of}
use Rattle.import.proofs.Sections.{taken_inside, made_of, sections_count, places_count, section_is, place_is}
use Rattle.import_names.proofs.Laws.{names-within}
use Rattle.entry_import_elf.specs.Entry.{rooms_of}
use Rattle.import_laws.proofs.ReadBack.{sections_read, places_read}

-- ---- outcomes that are no refusal with 1

abbrev pub NotOne : {A : Type 0} → Outcome A → Type 0
NotOne (accepted a) = Unit {0}
NotOne (refused number section address) = number ≡ 1 → ⊥

not_then : {B : Type 0} (m : Outcome (Unit {0})) (n : Outcome B) → NotOne m → (m ≡ accepted tt → NotOne n) → NotOne (m >> n)
unfolding ◌>>◌
not_then (accepted u) n p g = g refl
not_then (refused number section address) n p g = p

not_bind : {A B : Type 0} (m : Outcome A) (f : A → Outcome B) → NotOne m → ((a : A) → m ≡ accepted a → NotOne (f a)) → NotOne (m >>= f)
unfolding ◌>>=◌
not_bind (accepted a) f p g = g a refl
not_bind (refused number section address) f p g = p

-- a line with another number
not_line : (number section address : ℕ) (t : Bool) → (number ≡ 1 → ⊥) → NotOne (refuse number section address t)
unfolding refuse
not_line number section address true p = p
not_line number section address false p = tt

-- a line whose test fails
not_asked : (number section address : ℕ) {t : Bool} → t ≡ false → NotOne (refuse number section address t)
unfolding refuse
not_asked number section address e = subst (λ (b : Bool). NotOne (refuse number section address b)) (sym e) tt

-- ---- tables

not_size : (width ceiling size : ℕ) → size % width ≡ 0 → NotOne (size_check width ceiling size)
unfolding size_check
not_size width ceiling size e =
    not_then _ _ (not_asked 1 0 (place (size / width)) (ap not (eq-eqb (size % width) 0 e)))
    (λ _. not_then _ _ (not_line 2 0 ceiling (ltb ceiling (size / width)) (λ z. omega arith)) (λ _. tt))

not_records : (fault : ℕ → ℕ) (n : ℕ) → ((k : ℕ) → k < n → fault k ≡ 1 → ⊥) → NotOne (records_check fault n)
unfolding records_check refuse
not_records fault n f = go (ltb (first_fault fault n) n) refl
  where
    go : (t : Bool) → ltb (first_fault fault n) n ≡ t → NotOne (refuse (fault (first_fault fault n)) 0 (first_fault fault n) t)
    go true e = f (first_fault fault n) (ltb-true (first_fault fault n) n e)
    go false e = tt

not_table : (width ceiling : ℕ) (b : List ℕ) (fault : ℕ → ℕ) → length b % width ≡ 0 → ((k : ℕ) → k < length b / width → fault k ≡ 1 → ⊥) → NotOne (table_check width ceiling b fault)
unfolding table_check
not_table width ceiling b fault e f = not_then _ _ (not_size width ceiling (length b) e) (λ _. not_records fault (length b / width) f)

-- another number, or none
other : (number : ℕ) (t : Bool) → (number ≡ 1 → ⊥) → cond t number 0 ≡ 1 → ⊥
other number true p e = p e
other number false p e = omega arith

other_section : (lengths : List ℕ) (sections : List Section) (k : ℕ) → section_fault lengths sections k ≡ 1 → ⊥
unfolding section_fault
other_section lengths sections k = other 4 (section_bad (get_or lengths (get_or sections k no_section).name 0) (get_or sections k no_section)) (λ z. omega arith)

other_symbol : (names : ℕ) (sections : List Section) (symbols : List Symbol) (k : ℕ) → symbol_fault names sections symbols k ≡ 1 → ⊥
unfolding symbol_fault
other_symbol names sections symbols k =
    other 5 (symbol_bad names (length sections) (get_or sections (get_or symbols k no_symbol).section no_section) (get_or symbols k no_symbol)) (λ z. omega arith)

-- ---- the file

not_file : (file : List ℕ) → NotOne (file_check file)
unfolding file_check
not_file file =
    not_then _ _ (not_line 88 0 0 _ (λ z. omega arith))
    (λ _. not_then _ _ (not_line 88 0 0 _ (λ z. omega arith))
    (λ _. not_then _ _ (not_line 89 0 0 _ (λ z. omega arith))
    (λ _. not_then _ _ (not_line 89 0 0 _ (λ z. omega arith))
    (λ _. not_then _ _ (not_line 89 0 0 _ (λ z. omega arith))
    (λ _. not_line 89 0 0 _ (λ z. omega arith))))))

-- ---- the names

not_enter : (room : Room) (names : List (List ℕ)) (x : List ℕ) → NotOne (enter_name room names x)
unfolding enter_name
not_enter room names x = go (ltb (number_of names x) (length names))
  where
    go : (t : Bool) → NotOne (cond t (accepted names) (refuse 2 0 (length names) (no_place room names x) >> accepted (names ++ (x ∷ []))))
    go true = tt
    go false = not_then _ _ (not_line 2 0 (length names) (no_place room names x) (λ z. omega arith)) (λ _. tt)

not_enters : (room : Room) (names xs : List (List ℕ)) → NotOne (enter_names room names xs)
unfolding enter_names
not_enters room names [] = tt
not_enters room names (x ∷ xs) = not_bind _ _ (not_enter room names x) (λ more _. not_enters room more xs)

-- they have no more bytes than there is place for
enter_fits : (room : Room) (names : List (List ℕ)) (x : List ℕ) {more : List (List ℕ)} → length (flat names) ≤ room.bytes → enter_name room names x ≡ accepted more
    → length (flat more) ≤ room.bytes
unfolding no_place
enter_fits room names x h e =
    enter_cases room names x e
    (λ there same. subst (λ (l : List (List ℕ)). length (flat l) ≤ room.bytes) same h)
    (λ free same. subst (λ (l : List (List ℕ)). length (flat l) ≤ room.bytes) same
    (omega (arith, ltb-false room.bytes (length (flat names) + length x) (none_of _ 1 free), ap length (flat_more names x), length-append (flat names) x)))

enters_fit : (room : Room) (names xs : List (List ℕ)) {more : List (List ℕ)} → length (flat names) ≤ room.bytes → enter_names room names xs ≡ accepted more → length (flat more) ≤ room.bytes
unfolding enter_names
enters_fit room names [] {more} h e = subst (λ (l : List (List ℕ)). length (flat l) ≤ room.bytes) (let z : names ≡ more = cc in z) h
enters_fit room names (x ∷ xs) h e =
    let b = bind_inv (enter_name room names x) _ _ e in
    enters_fit room b.0 xs (enter_fits room names x h b.1) b.2

not_named : (file : List ℕ) (room : Room) → NotOne (names_of file room)
unfolding names_of
not_named file room = not_bind _ _ (not_enters room [] _) (λ names _. not_enters room names _)

named_fit : (file : List ℕ) (room : Room) (names : List (List ℕ)) → names_of file room ≡ accepted names → length (flat names) ≤ room.bytes
unfolding names_of flat
named_fit file room names e =
    let b = bind_inv (enter_names room [] _) _ names e in
    enters_fit room b.0 _ (enters_fit room [] _ zero-le b.1) b.2

-- names laid down one behind the other
module _ (names : List (List ℕ)) (small : length (flat names) < 65536) where
  laid : Laid names (name_ends names) (flat names)
  laid = record { ends_are = refl; bytes_are = refl; small = small }

  whole_name : (k : ℕ) → k < length names → name_cut (name_ends names) (flat names) k ≡ false
  unfolding name_cut any_of
  whole_name k h =
      rw (le-ltb (end_of (name_ends names) k) (start_of (name_ends names) k) (start_back laid k h), le-ltb (length (flat names)) (end_of (name_ends names) k) (end_back laid k h))

  not_name : (k : ℕ) → k < length names → name_fault (name_ends names) (flat names) k ≡ 1 → ⊥
  unfolding name_fault
  not_name k h e = other 3 (name_wrong (name_ends names) (flat names) k) (λ z. omega arith) (rw (whole_name k h) at e)

  not_names : NotOne (names_check 4096 (name_ends names) (flat names))
  unfolding names_check
  not_names =
      not_then _ _ (not_size 2 4096 (length (name_ends names)) (omega (arith, long_halves 0 names)))
      (λ _. not_records (name_fault (name_ends names) (flat names)) (length (name_ends names) / 2) (λ k h. not_name k (omega (arith, h, count_back laid))))

-- ---- the sections and symbols

-- neither of two tests holds
neither : (a : Bool) {c d : Bool} → c ≡ false → d ≡ false → (a && any_of (c ∷ d ∷ [])) ≡ false
unfolding any_of
neither true e q = rw (e, q)
neither false e q = refl

module _ (file : List ℕ) (names : List (List ℕ)) (p : Passed file) (few : length names ≤ 4096) (bytes : Bytes file) where
  abbrev sections : List Section
  sections = (tables_of file names).sections

  abbrev places : List ℕ
  places = image_places_of (places_table (tables_of file names).places)

  many_places : length places ≡ length (taken (header_table file))
  unfolding image_places_of
  many_places =
      let all = places_table (tables_of file names).places in
      length-tabulate (λ k. le32 all (4 * k)) 0 (length all / 4) ∙ omega (arith, long_places (tables_of file names).places, places_count file names)

  -- its bytes lie in the file, or it is bss
  not_cut : (k : ℕ) → k < length sections → bytes_cut places (length file) k (get_or (stage_sections (sections_table sections)) k no_section) ≡ false
  unfolding bytes_cut head_of kind_of place_of
  not_cut k h =
      let there : k < length (taken (header_table file)) = omega (arith, h, sections_count file names) in
      let row = ap (λ (l : List Section). get_or l k no_section) (sections_read file names few bytes) ∙ section_is file names k there in
      ap (bytes_cut places (length file) k) row ∙ go there (no_bits (made_of file k)) refl
    where
      go : k < length (taken (header_table file)) → (t : Bool) → no_bits (made_of file k) ≡ t → bytes_cut places (length file) k (head_of names (section_strings file) (made_of file k)) ≡ false
      go there true q = bss_not_cut places (length file) k (head_of names (section_strings file) (made_of file k)) (rw q)
      go there false q =
          let place : get_or places k 0 ≡ (made_of file k).offset = places_read file names few bytes k (omega (arith, there, places_count file names)) ∙ place_is file names k there ∙ rw q in
          neither (not (eqb (head_of names (section_strings file) (made_of file k)).kind 3)) (lt-leb (length places) k (omega (arith, there, many_places)))
          (le-ltb (length file) (get_or places k 0 + (made_of file k).size) (omega (arith, place, taken_inside file p k there q)))

  not_image : (lengths : List ℕ) → NotOne (image_check 64 lengths (places_table (tables_of file names).places) (length file) (sections_table sections))
  unfolding image_fault
  not_image lengths =
      not_table 15 64 (sections_table sections) _ (omega (arith, long_sections sections))
      (λ k h e. other_section lengths (stage_sections (sections_table sections)) k (rw (not_cut k (omega (arith, h, long_sections sections))) at e))

  not_symbols : (count : ℕ) (known : List Section) → NotOne (symbols_check 4096 count known (symbols_table (tables_of file names).symbols))
  not_symbols count known =
      not_table 20 4096 (symbols_table (tables_of file names).symbols) _ (omega (arith, long_symbols (tables_of file names).symbols))
      (λ k h e. other_symbol count known (stage_symbols (symbols_table (tables_of file names).symbols)) k e)

not_tables : (file : List ℕ) (names : List (List ℕ)) (room : Rooms) → Passed file → length (flat names) < 65536 → Bytes file → NotOne (tables_check (length file) room (tables_of file names))
unfolding tables_check tables_of
not_tables file names room p small bytes =
    not_then _ _ (not_names names small)
    (λ passed.
    let few : length names ≤ 4096 = omega (arith, (names_passed 4096 (name_ends names) (flat names) passed).few, long_halves 0 names) in
    not_then _ _ (not_line 2 0 room.sections _ (λ z. omega arith))
    (λ _. not_then _ _ (not_image file names p few bytes _)
    (λ _. not_then _ _ (not_line 2 0 room.symbols _ (λ z. omega arith))
    (λ _. not_symbols file names p few bytes _ _))))

-- ---- the import

not_import : (file : List ℕ) (room : Rooms) → room.names.bytes ≤ 65535 → Bytes file → NotOne (import_of file room)
unfolding import_of
not_import file room fits bytes =
    not_then _ _ (not_file file)
    (λ checked. not_bind _ _ (not_named file room.names)
    (λ names named. not_then _ _ (not_tables file names room (file_passed file checked) (omega (arith, fits, named_fit file room.names names named)) bytes) (λ _. tt)))

-- no call of the entry is refused with 1
pub never_one : (file : List ℕ) (ends bytes sections places symbols : ℕ) {number section address : ℕ} → Bytes file
    → import_of file (rooms_of ends bytes sections places symbols) ≡ refused number section address → number ≡ 1 → ⊥
never_one file ends bytes sections places symbols {number} {section} {address} small e =
    subst NotOne e (not_import file (rooms_of ends bytes sections places symbols) (names-within {ends = ends} {bytes = bytes} refl refl).short small)
