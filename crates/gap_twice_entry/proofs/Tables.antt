-- Tables of sections and symbols that pass still do when names are added. Assumes nothing.
use mathlib.Core.Path.{◌≡◌, refl, ap, ◌∙◌}
use mathlib.Core.List.{List, ◌++◌}
use mathlib.Core.Bool.{cond}
use Prim.Native.Nat.{ℕ, ◌/◌, ◌≤◌, ◌<◌}
use native.Mathlib.Omega.{arith}
use borrow.Author.Tests.{lt-leb}
use lib.ListN.{length, get_or, get_or-append}
use Rattle.lists.specs.Outcome.{accepted}
use Rattle.lists.proofs.Rows.{has_place}
use Rattle.obj.specs.declared.Section.{Section}
use Rattle.obj.specs.declared.Symbol.{Symbol}
use Rattle.obj.specs.Nothing.{no_section, no_symbol}
use Rattle.faults.specs.Faults.{section_bad, symbol_bad}
use Rattle.faults.proofs.Laws as record-laws
use Rattle.tables.specs.Records.{section_fault, image_fault, symbol_fault, image_places_of}
use Rattle.tables.proofs.Laws as table-laws
use Rattle.stage_tables.specs.StageTables.{stage_sections, stage_symbols, table_check, image_check, symbols_check}
use Rattle.stage_tables.proofs.Laws.{table_passed}
use Rattle.file_tables.proofs.Checks.{table_passes}

-- the check of a table whose faults are no more
table_more : (width ceiling : ℕ) (b : List ℕ) (fault fault' : ℕ → ℕ) → ((k : ℕ) → fault k ≡ 0 → fault' k ≡ 0) → table_check width ceiling b fault ≡ accepted tt → table_check width ceiling b fault' ≡ accepted tt
table_more width ceiling b fault fault' f e =
    let p = table_passed width ceiling b fault e in
    table_passes width ceiling b fault' (length b / width) p.0 refl p.1 (λ k h. f k (table-laws.records_passed fault (length b / width) p.2 k h))

-- ---- sections

-- the length of a name that is there stays
length-kept : (lengths more : List ℕ) (k : ℕ) → 0 < get_or lengths k 0 → get_or (lengths ++ more) k 0 ≡ get_or lengths k 0
length-kept lengths more k h = get_or-append lengths more 0 k (has_place lengths k h)

section_more : (lengths more : List ℕ) (sections : List Section) (k : ℕ) → section_fault lengths sections k ≡ 0 → section_fault (lengths ++ more) sections k ≡ 0
unfolding section_fault
section_more lengths more sections k e =
    let s = get_or sections k no_section in
    let p = record-laws.section_named (get_or lengths s.name 0) s (table-laws.section_good lengths sections k e) in
    ap (λ (n : ℕ). cond (section_bad n s) 4 0) (length-kept lengths more s.name p.0) ∙ e

image_fault_more : (lengths more places : List ℕ) (image : ℕ) (sections : List Section) (k : ℕ) → image_fault lengths places image sections k ≡ 0 → image_fault (lengths ++ more) places image sections k ≡ 0
unfolding image_fault
image_fault_more lengths more places image sections k e =
    let p = table-laws.image_good lengths places image sections k e in
    rw p.0 (section_more lengths more sections k p.1)

-- THEOREM: sections that pass still do when names are added
pub image_more : (ceiling : ℕ) (lengths more places : List ℕ) (image : ℕ) (b : List ℕ) → image_check ceiling lengths places image b ≡ accepted tt → image_check ceiling (lengths ++ more) places image b ≡ accepted tt
image_more ceiling lengths more places image b e =
    table_more 15 ceiling b (image_fault lengths (image_places_of places) image (stage_sections b)) (image_fault (lengths ++ more) (image_places_of places) image (stage_sections b)) (image_fault_more lengths more (image_places_of places) image (stage_sections b)) e

-- ---- symbols

symbol_more : (names names' : ℕ) → names ≤ names' → (sections : List Section) (symbols : List Symbol) (k : ℕ) → symbol_fault names sections symbols k ≡ 0 → symbol_fault names' sections symbols k ≡ 0
unfolding symbol_fault symbol_bad
symbol_more names names' h sections symbols k e =
    let s = get_or symbols k no_symbol in
    let p = record-laws.symbol_name names (length sections) (get_or sections s.section no_section) s (table-laws.symbol_good names sections symbols k e) in
    rw (lt-leb names' s.name (omega arith)) (rw (lt-leb names s.name p) at e)

-- THEOREM: .. and so do symbols
pub symbols_more : (ceiling names names' : ℕ) (sections : List Section) (b : List ℕ) → names ≤ names' → symbols_check ceiling names sections b ≡ accepted tt → symbols_check ceiling names' sections b ≡ accepted tt
symbols_more ceiling names names' sections b h e = table_more 20 ceiling b (symbol_fault names sections (stage_symbols b)) (symbol_fault names' sections (stage_symbols b)) (symbol_more names names' h sections (stage_symbols b)) e
