-- The records that a file gives, row by row; each section taken over is one of the file's and allocated, and in a file that passed its bytes lie in the file unless it is
-- NOBITS. Assumes nothing.
use mathlib.Core.Path.{◌≡◌, sym, ap, ◌∙◌}
use mathlib.Core.List.{List, []}
use mathlib.Core.Bool.{true, false, not}
use Prim.Native.Nat.{ℕ, ◌+◌, ◌*◌, ◌-◌, ◌/◌, ◌≤◌, ◌<◌}
use native.Mathlib.Nat.{zero-add}
use native.Mathlib.Omega.{arith}
use borrow.Author.Tests.{ltb-false}
use lib.ListN.{length, get_or, length-map}
use Rattle.std.proofs.lemmas.List.{get_or-map}
use Rattle.lists.specs.Rows.{tabulate}
use Rattle.lists.proofs.All.{all_at, all_keep}
use Rattle.lists.proofs.Filter.{keep_passes}
use Rattle.lists.proofs.Mapping.{numbers_all}
use Rattle.lists.proofs.Rows.{length-tabulate, get_d_tabulate}
use Rattle.lists.proofs.Some.{some_false}
use Rattle.lists.proofs.Tests.{none_of, and_false}
use Rattle.obj.specs.Nothing.{no_section, no_symbol}
use Rattle.elf.specs.Elf.{symbol_entry_at, no_section_header}
use Rattle.elf.specs.declared.SectionHeader.{SectionHeader}
use Rattle.elf.specs.declared.SymbolEntry.{SymbolEntry}
use Rattle.elf_file.specs.File.{outside, section_bytes, header_table, count, header_of, allocated, no_bits, taken, section_strings, symbol_table, entries_of, symbol_entries, symbol_strings, section_cut, sections_cut}
use Rattle.elf_file.proofs.Laws.{Passed}
use Rattle.import_rows.specs.Rows.{head_of, place_of, symbol_of}
use Rattle.import.specs.Import.{tables_of}

module _ (headers : List ℕ) (j : ℕ) (h : j < length (taken headers)) where
  -- it is a section of the file
  pub taken-below : get_or (taken headers) j 0 < count headers
  unfolding taken
  taken-below = all_at j 0 (all_keep (λ k. allocated (header_of headers k)) (numbers_all (λ k. k < count headers) 0 (count headers) (λ k l q. omega arith))) h

  -- and allocated
  pub taken-allocated : allocated (header_of headers (get_or (taken headers) j 0)) ≡ true
  unfolding taken
  taken-allocated = all_at j 0 (keep_passes (λ k. allocated (header_of headers k)) (tabulate (λ k. k) 0 (count headers))) h

-- in a file that passed, section k is not cut
pub not_cut : (file : List ℕ) → Passed file → (k : ℕ) → k < count (header_table file) → section_cut (length file) (section_strings file) (header_of (header_table file) k) ≡ false
unfolding sections_cut
not_cut file p k h =
    let rows = tabulate (header_of (header_table file)) 0 (count (header_table file)) in
    let size = length-tabulate (header_of (header_table file)) 0 (count (header_table file)) in
    let at : get_or rows k no_section_header ≡ header_of (header_table file) k =
    get_d_tabulate (header_of (header_table file)) 0 (count (header_table file)) k no_section_header h ∙ ap (header_of (header_table file)) (zero-add k) in
    ap (section_cut (length file) (section_strings file)) (sym at) ∙ some_false (section_cut (length file) (section_strings file)) rows k no_section_header p.sections (omega (arith, size))

-- .. so a section taken over that is not NOBITS lies in the file
pub taken_inside : (file : List ℕ) → Passed file → (j : ℕ) → j < length (taken (header_table file))
    → let s = header_of (header_table file) (get_or (taken (header_table file)) j 0) in no_bits s ≡ false → s.offset + s.size ≤ length file
unfolding section_cut
taken_inside file p j h q =
    let s = header_of (header_table file) (get_or (taken (header_table file)) j 0) in
    let both = and_false _ _ (not_cut file p (get_or (taken (header_table file)) j 0) (taken-below (header_table file) j h)) (taken-allocated (header_table file) j h) in
    let holds : not (no_bits s) ≡ true = rw q in
    let out : outside (length file) s.offset s.size ≡ false = and_false _ _ (none_of _ 0 both) holds in
    ltb-false (length file) (s.offset + s.size) out

-- ---- the records

-- the ELF section that record j is made of
abbrev pub made_of : List ℕ → ℕ → SectionHeader
made_of file j = header_of (header_table file) (get_or (taken (header_table file)) j 0)

-- the symbol table's bytes
abbrev pub symbol_bytes : List ℕ → List ℕ
symbol_bytes file = section_bytes file (symbol_table (header_table file))

module _ (file : List ℕ) (names : List (List ℕ)) where
  -- as many records, and as many places, as allocated sections
  pub sections_count : length (tables_of file names).sections ≡ length (taken (header_table file))
  unfolding tables_of
  sections_count = length-map (taken (header_table file)) _

  pub places_count : length (tables_of file names).places ≡ length (taken (header_table file))
  unfolding tables_of
  places_count = length-map (taken (header_table file)) _

  -- record j and its place are those of the j-th
  module _ (j : ℕ) (h : j < length (taken (header_table file))) where
    pub section_is : get_or (tables_of file names).sections j no_section ≡ head_of names (section_strings file) (made_of file j)
    unfolding tables_of
    section_is = get_or-map (λ k. head_of names (section_strings file) (header_of (header_table file) k)) (taken (header_table file)) j 0 no_section h

    pub place_is : get_or (tables_of file names).places j 0 ≡ place_of (made_of file j)
    unfolding tables_of
    place_is = get_or-map (λ k. place_of (header_of (header_table file) k)) (taken (header_table file)) j 0 0 h

  -- as many symbols as entries past the null one
  pub symbols_count : length (tables_of file names).symbols ≡ length (symbol_bytes file) / 16 - 1
  unfolding tables_of symbol_entries entries_of
  symbols_count =
      length-map (entries_of (symbol_bytes file)) _ ∙ length-tabulate (λ k. symbol_entry_at (symbol_bytes file) (16 * k)) 1 (length (symbol_bytes file) / 16 - 1)

  -- symbol j is made of entry j + 1
  pub symbol_is : (j : ℕ) → j < length (symbol_bytes file) / 16 - 1
      → get_or (tables_of file names).symbols j no_symbol ≡ symbol_of names (symbol_strings file) (taken (header_table file)) (symbol_entry_at (symbol_bytes file) (16 * (1 + j)))
  unfolding tables_of symbol_entries entries_of
  symbol_is j h =
      let row : ℕ → SymbolEntry = λ k. symbol_entry_at (symbol_bytes file) (16 * k) in
      let many = length (symbol_bytes file) / 16 - 1 in
      get_or-map (symbol_of names (symbol_strings file) (taken (header_table file))) (tabulate row 1 many) j (symbol_entry_at [] 0) no_symbol (omega (arith, length-tabulate row 1 many))
      ∙ ap (symbol_of names (symbol_strings file) (taken (header_table file))) (get_d_tabulate row 1 many j (symbol_entry_at [] 0) h)
