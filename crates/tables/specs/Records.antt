-- The fault of record k of a table of each kind: its number, or 0 for none. `lengths` are the lengths of the names; a name that is not there
-- has length 0.
use Rattle.std.specs.Prelude.{ℕ, suc, ◌+◌, ◌*◌, ◌-◌, ◌/◌, List, [], ◌∷◌, map, Bool, cond, not, ◌&&◌, length, get_or, take, eqb, ltb, leb}
use Rattle.lists.specs.Rows.{any_of, tabulate}
use Rattle.fields.specs.Fields.{le32}
use Rattle.obj.specs.Records.{section_at, symbol_at, reloc_at, partial_numbered, split_at, unit_at}
use Rattle.obj.specs.declared.Section.{Section}
use Rattle.obj.specs.declared.Symbol.{Symbol}
use Rattle.obj.specs.declared.Reloc.{Reloc}
use Rattle.obj.specs.declared.Split.{Split}
use Rattle.obj.specs.declared.Unit as units
use Rattle.obj.specs.Nothing.{no_section, no_symbol, no_reloc, no_split, no_unit}
use Rattle.faults.specs.Faults.{section_bad, symbol_bad, reloc_bad, split_bad, split_misplaced, unit_bad}

-- the records of a table: those at its places
abbrev pub sections_in : (b places : List ℕ) → List Section
sections_in b places = map (section_at b) places

abbrev pub symbols_in : (b places : List ℕ) → List Symbol
symbols_in b places = map (symbol_at b) places

abbrev pub relocs_in : (b places : List ℕ) → List Reloc
relocs_in b places = map (reloc_at b) places

-- partial splits, numbered from 0
abbrev pub partials_in : (b places : List ℕ) → List Split
partials_in b places = tabulate (λ k. partial_numbered b k (get_or places k 0)) 0 (length places)

abbrev pub splits_in : (b places : List ℕ) → List Split
splits_in b places = map (split_at b) places

abbrev pub units_in : (b places : List ℕ) → List units.Unit
units_in b places = map (unit_at b) places

-- this number if the test holds
abbrev pub numbered : ℕ → Bool → ℕ
numbered number test = cond test number 0

-- "4 section"
unfoldable pub section_fault : (lengths : List ℕ) → (sections : List Section) → ℕ → ℕ
section_fault lengths sections k =
    numbered 4 (section_bad (get_or lengths (get_or sections k no_section).name 0) (get_or sections k no_section))

-- the places of the sections' bytes in an image, four bytes each; what is left over is no place
unfoldable pub image_places_of : List ℕ → List ℕ
image_places_of b = tabulate (λ k. le32 b (4 * k)) 0 (length b / 4)

-- its bytes do not lie in the image: it has no place, or its place and size pass the image; "Sections without bytes", kind 3, have none
unfoldable pub bytes_cut : (places : List ℕ) → (image : ℕ) → ℕ → Section → Bool
bytes_cut places image k s = not (eqb s.kind 3) && (any_of (leb (length places) k ∷ ltb image (get_or places k 0 + s.size) ∷ []))

-- in a table whose sections have bytes in an image: 1 first, then 4 (DECISIONS.md, 13)
unfoldable pub image_fault : (lengths places : List ℕ) → (image : ℕ) → (sections : List Section) → ℕ → ℕ
image_fault lengths places image sections k =
    cond (bytes_cut places image k (get_or sections k no_section)) 1 (section_fault lengths sections k)

-- "5 symbol"
unfoldable pub symbol_fault : (names : ℕ) → (sections : List Section) → (symbols : List Symbol) → ℕ → ℕ
symbol_fault names sections symbols k =
    numbered 5
    (symbol_bad names (length sections) (get_or sections (get_or symbols k no_symbol).section no_section) (get_or symbols k no_symbol))

-- one more than the address of the last of these relocations that lies in the section, `floor` if none does
unfoldable pub floor_from : (section floor : ℕ) → List Reloc → ℕ
floor_from section floor [] = floor
floor_from section floor (r ∷ relocs) = floor_from section (cond (eqb r.section section) (suc r.address) floor) relocs

-- "6 relocation", of one that is to lie at or above `floor`
unfoldable pub reloc_fault_above : (sections : List Section) → (symbols floor : ℕ) → Reloc → ℕ
reloc_fault_above sections symbols floor r =
    numbered 6 (reloc_bad (length sections) symbols (get_or sections r.section no_section) floor r)

-- "not above the section's last"
unfoldable pub reloc_fault : (sections : List Section) → (symbols : ℕ) → (relocs : List Reloc) → ℕ → ℕ
reloc_fault sections symbols relocs k =
    reloc_fault_above sections symbols (floor_from (get_or relocs k no_reloc).section 0 (take k relocs)) (get_or relocs k no_reloc)

-- "7 split", of a record file and of the merge's partial list, which "is checked as records"
unfoldable pub partial_fault : (lengths : List ℕ) → (splits : List Split) → ℕ → ℕ
partial_fault lengths splits k =
    numbered 7
    (split_bad (get_or lengths (get_or splits k no_split).unit 0) (get_or lengths (get_or splits k no_split).rename 0) (get_or splits k no_split))

-- the split before split k; before the first one that nothing falls below
unfoldable pub split_before : List Split → ℕ → Split
split_before splits k = cond (eqb k 0) no_split (get_or splits (k - 1) no_split)

-- "7 split", in stage tables
unfoldable pub split_fault : (lengths : List ℕ) → (sections : List Section) → (splits : List Split) → ℕ → ℕ
split_fault lengths sections splits k =
    numbered 7
    (any_of
    (split_bad (get_or lengths (get_or splits k no_split).unit 0) (get_or lengths (get_or splits k no_split).rename 0) (get_or splits k no_split)
    ∷ split_misplaced (length sections) (get_or sections (get_or splits k no_split).section no_section) (split_before splits k)
    (get_or splits k no_split)
    ∷ []))

-- "8 unit"
unfoldable pub unit_fault : (lengths : List ℕ) → (units : List units.Unit) → ℕ → ℕ
unit_fault lengths us k = numbered 8 (unit_bad (get_or lengths (get_or us k no_unit).name 0) (get_or us k no_unit))
