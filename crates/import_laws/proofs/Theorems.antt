-- What an accepted import gives (document 02, (h)): its tables pass all checks of `check_tables`, so that file and tables go straight into the other entries; each section that holds
-- bytes has at its place in the file just the ELF section's bytes; and of a section of kind 3 no bytes are asked. Assumes nothing.
use mathlib.Core.Path.{◌≡◌, sym, ap, ap₂, subst, ◌∙◌}
use mathlib.Core.List.{List, []}
use mathlib.Core.Bool.{true, false}
use Prim.Native.Nat.{ℕ, ◌+◌, ◌-◌, ◌/◌, ◌%◌, ◌≤◌, ◌<◌, zero-le}
use native.Mathlib.Omega.{arith}
use native.Mathlib.Nat.{mod-eq_of_lt, div-eq_of_lt}
use borrow.Author.Tests.{le-ltb}
use lib.ListN.{length, get_or, take, drop}
use Rattle.lists.specs.Rows.{first_from}
use Rattle.lists.specs.Outcome.{accepted, refuse, ◌>>◌}
use Rattle.lists.proofs.Binds.{after_goes}
use Rattle.lists.proofs.Outcomes.{then_both, then_inv, bind_inv, same_accepted}
use Rattle.obj.specs.declared.Section.{Section}
use Rattle.obj.specs.Records.{split_width}
use Rattle.obj.specs.Nothing.{no_section}
use Rattle.tables.specs.Tables.{size_check, first_fault, records_check}
use Rattle.name_table.specs.NameTable.{names_check}
use Rattle.stage_tables.specs.StageTables.{table_check}
use Rattle.stage_names.specs.StageNames.{flat, name_ends}
use Rattle.entry_check_tables.specs.Entry as entry
use Rattle.elf_file.specs.File.{bytes_in, section_bytes, header_table, taken, no_bits, section_strings, file_check}
use Rattle.elf_file.proofs.Laws.{file_passed}
use Rattle.import_rows.specs.Rows.{kind_of, head_of, place_of, sections_table, places_table, symbols_table}
use Rattle.import.proofs.Sections.{taken_inside, made_of, sections_count, places_count, section_is, place_is}
use Rattle.import.specs.Import.{Rooms, Tables, names_of, tables_of, tables_check, import_of}

-- ---- what an accepted import went through

pub record Accepted (file : List ℕ) (room : Rooms) (t : Tables) : Type 0 where
  pub names : List (List ℕ)
  pub checked : file_check file ≡ accepted tt
  pub numbered : names_of file room.names ≡ accepted names
  pub tables : t ≡ tables_of file names
  pub passed : tables_check (length file) room t ≡ accepted tt

pub accepted_import : (file : List ℕ) (room : Rooms) (t : Tables) → import_of file room ≡ accepted t → Accepted file room t
unfolding import_of
accepted_import file room t e =
    let a = then_both (file_check file) _ t e in
    let b = bind_inv (names_of file room.names) _ t a.1 in
    let d = then_both (tables_check (length file) room (tables_of file b.0)) _ t b.2 in
    let same : tables_of file b.0 ≡ t = same_accepted d.1 in
    record { names = b.0; checked = a.0; numbered = b.1; tables = sym same; passed = subst (λ (x : Tables). tables_check (length file) room x ≡ accepted tt) same d.0 }

-- ---- the tables pass `check_tables`

-- a table without records passes
empty_table : (width ceiling : ℕ) (fault : ℕ → ℕ) → 0 < width → table_check width ceiling [] fault ≡ accepted tt
unfolding table_check size_check records_check first_fault first_from refuse ◌>>◌
empty_table width ceiling fault h =
    let whole : 0 % width ≡ 0 = mod-eq_of_lt h in
    let none : 0 / width ≡ 0 = div-eq_of_lt h in
    rw (whole, none, le-ltb ceiling 0 zero-le)

pub import_passes : (file : List ℕ) (room : Rooms) (t : Tables) → import_of file room ≡ accepted t
    → entry.tables_of (name_ends t.names) (flat t.names) (sections_table t.sections) (places_table t.places) file (symbols_table t.symbols) [] [] [] ≡ accepted tt
unfolding tables_check entry.tables_of
import_passes file room t e =
    let a = accepted_import file room t e in
    let names = then_both (names_check 4096 (name_ends t.names) (flat t.names)) _ tt a.passed in
    let few = then_inv 2 0 room.sections _ _ tt names.1 in
    let sections = then_both _ _ tt few.1 in
    let many = then_inv 2 0 room.symbols _ _ tt sections.1 in
    after_goes _ _ names.0
    ∙ after_goes _ _ sections.0
    ∙ after_goes _ _ many.1
    ∙ after_goes _ _ (empty_table 23 4096 _ (omega arith))
    ∙ after_goes _ _ (empty_table split_width 1024 _ (omega arith))
    ∙ empty_table 8 1024 _ (omega arith)

-- ---- the sections' bytes

module _ (file : List ℕ) (room : Rooms) (t : Tables) (e : import_of file room ≡ accepted t) where
  -- as many records, and as many places, as allocated sections
  pub section_count : length t.sections ≡ length (taken (header_table file))
  section_count = let a = accepted_import file room t e in ap (λ (x : Tables). length x.sections) a.tables ∙ sections_count file a.names

  pub place-count : length t.places ≡ length (taken (header_table file))
  place-count = let a = accepted_import file room t e in ap (λ (x : Tables). length x.places) a.tables ∙ places_count file a.names

  module _ (j : ℕ) (h : j < length t.sections) where
    numbers : j < length (taken (header_table file))
    numbers = omega (arith, section_count)

    -- record j: its fields are the ELF section's
    pub section_made : get_or t.sections j no_section ≡ head_of t.names (section_strings file) (made_of file j)
    unfolding tables_of
    section_made =
        let a = accepted_import file room t e in
        ap (λ (x : Tables). get_or x.sections j no_section) a.tables
        ∙ section_is file a.names j numbers
        ∙ ap (λ (l : List (List ℕ)). head_of l (section_strings file) (made_of file j)) (sym (ap (λ (x : Tables). x.names) a.tables))

    pub place_made : get_or t.places j 0 ≡ place_of (made_of file j)
    place_made = let a = accepted_import file room t e in ap (λ (x : Tables). get_or x.places j 0) a.tables ∙ place_is file a.names j numbers

    -- it is bss if the ELF section is NOBITS
    pub bss_no_bits : no_bits (made_of file j) ≡ true → (get_or t.sections j no_section).kind ≡ 3
    unfolding head_of kind_of
    bss_no_bits q = ap (λ (s : Section). s.kind) section_made ∙ rw q

    -- a section that is not bss: its bytes lie in the file, and what stands there at its place is just the ELF section's bytes
    pub section_inside : no_bits (made_of file j) ≡ false → (made_of file j).offset + (made_of file j).size ≤ length file
    section_inside q = taken_inside file (file_passed file (accepted_import file room t e).checked) j numbers q

    pub section_bytes_lem : no_bits (made_of file j) ≡ false
        → take (get_or t.sections j no_section).size (drop (get_or t.places j 0) file) ≡ section_bytes file (made_of file j)
    unfolding head_of place_of bytes_in
    section_bytes_lem q =
        let place : get_or t.places j 0 ≡ (made_of file j).offset = place_made ∙ rw q in
        ap₂ (λ (n at : ℕ). take n (drop at file)) (ap (λ (s : Section). s.size) section_made) place
        ∙ sym (rw (le-ltb (length file) ((made_of file j).offset + (made_of file j).size) (section_inside q)))
