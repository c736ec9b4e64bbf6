-- The stage tables of each kind but names: document 01, "stage tables by kind (record: its number there; for 2 the first too many), each for 1,
-- 2, then its kind's number" (DECISIONS.md, 9). One outcome for each table, so that an entry's definition has a line for each table that it takes.
-- `lengths` are the lengths of the names, `sections` the sections that a record may refer to. What a table that passed is: `table_passed` of
-- proofs/Laws.antt, and the laws of `tables` on its records.
use Rattle.std.specs.Prelude.{ℕ, ◌/◌, ◌≤◌, ◌≡◌, List, length, take, Result, Ok, Err, IfOk}
use Rattle.lists.specs.Outcome.{Outcome, accepted, ◌>>◌}
use Rattle.obj.specs.Records.{stage_places, split_width, partial_width}
use Rattle.obj.specs.Answers.{Answer, meaning}
use Rattle.obj.specs.declared.Refusal.{Refusal}
use Rattle.obj.specs.declared.Table.{Table}
use Rattle.obj.specs.declared.Section.{Section}
use Rattle.obj.specs.declared.Symbol.{Symbol}
use Rattle.obj.specs.declared.Reloc.{Reloc}
use Rattle.obj.specs.declared.Split.{Split}
use Rattle.obj.specs.declared.Unit as units
use Rattle.tables.specs.Tables.{size_check, records_check, AllHeld}
use Rattle.tables.specs.Records.{sections_in, symbols_in, relocs_in, partials_in, splits_in, units_in, image_places_of, section_fault, image_fault, symbol_fault, reloc_fault, partial_fault, split_fault, unit_fault}

-- the records of a stage table lie one after another
abbrev pub stage_sections : List ℕ → List Section
stage_sections b = sections_in b (stage_places 15 (length b / 15))

abbrev pub stage_symbols : List ℕ → List Symbol
stage_symbols b = symbols_in b (stage_places 20 (length b / 20))

abbrev pub stage_relocs : List ℕ → List Reloc
stage_relocs b = relocs_in b (stage_places 23 (length b / 23))

abbrev pub stage_partials : List ℕ → List Split
stage_partials b = partials_in b (stage_places partial_width (length b / partial_width))

abbrev pub stage_splits : List ℕ → List Split
stage_splits b = splits_in b (stage_places split_width (length b / split_width))

abbrev pub stage_units : List ℕ → List units.Unit
stage_units b = units_in b (stage_places 8 (length b / 8))

-- a table of records of `width` bytes: 1, 2, then the first record that has a fault
unfoldable pub table_check : (width ceiling : ℕ) → (b : List ℕ) → (fault : ℕ → ℕ) → Outcome (Unit {0})
table_check width ceiling b fault = size_check width ceiling (length b) >> records_check fault (length b / width)

-- "4 section"
abbrev pub sections_check : (ceiling : ℕ) → (lengths b : List ℕ) → Outcome (Unit {0})
sections_check ceiling lengths b = table_check 15 ceiling b (section_fault lengths (stage_sections b))

-- the same where the sections have bytes in an image of `image` bytes, at the places that `places` has, four bytes each: 1, then 4, of each section
abbrev pub image_check : (ceiling : ℕ) → (lengths places : List ℕ) → (image : ℕ) → (b : List ℕ) → Outcome (Unit {0})
image_check ceiling lengths places image b = table_check 15 ceiling b (image_fault lengths (image_places_of places) image (stage_sections b))

-- "5 symbol"
abbrev pub symbols_check : (ceiling names : ℕ) → (sections : List Section) → (b : List ℕ) → Outcome (Unit {0})
symbols_check ceiling names sections b = table_check 20 ceiling b (symbol_fault names sections (stage_symbols b))

-- "6 relocation"
abbrev pub relocs_check : (ceiling : ℕ) → (sections : List Section) → (symbols : ℕ) → (b : List ℕ) → Outcome (Unit {0})
relocs_check ceiling sections symbols b = table_check 23 ceiling b (reloc_fault sections symbols (stage_relocs b))

-- "7 split": "The merge's partial list is checked as records"
abbrev pub partials_check : (ceiling : ℕ) → (lengths b : List ℕ) → Outcome (Unit {0})
partials_check ceiling lengths b = table_check partial_width ceiling b (partial_fault lengths (stage_partials b))

-- "7 split", "in stage tables also .."
abbrev pub splits_check : (ceiling : ℕ) → (lengths : List ℕ) → (sections : List Section) → (b : List ℕ) → Outcome (Unit {0})
splits_check ceiling lengths sections b = table_check split_width ceiling b (split_fault lengths sections (stage_splits b))

-- "8 unit"
abbrev pub units_check : (ceiling : ℕ) → (lengths b : List ℕ) → Outcome (Unit {0})
units_check ceiling lengths b = table_check 8 ceiling b (unit_fault lengths (stage_units b))

-- ---- what the functions ask and leave

-- the lent column has a place for each record that is allowed
pub record Room (ceiling : ℕ) (places : List ℕ) : Type 0 where
  pub few : ceiling ≤ 4096
  pub long : ceiling ≤ length places

-- what was answered of a table of `size` bytes, and the places of its records if it was accepted
pub record Filled (answer want : Outcome (Unit {0})) (width size : ℕ) (places : List ℕ) : Type 0 where
  pub said : answer ≡ want
  pub filled : want ≡ accepted tt → take (size / width) places ≡ stage_places width (size / width)

-- what was answered, whatever comes with it
abbrev pub answered : {A : Type 0} → Result A Refusal → Answer
answered (Ok a) = Ok tt
answered (Err r) = Err r

-- the whole records of these bytes, one after another
pub record Whole (width : ℕ) (b : List ℕ) (t : Table) : Type 0 where
  pub bytes : t.bytes.now ≡ b
  pub places : t.places.now ≡ stage_places width (length b / width)
  pub held : AllHeld width t.bytes.now t.places.now

-- what was answered of the bytes b, and their table if it was accepted
pub record Taken (want : Outcome (Unit {0})) (width : ℕ) (b : List ℕ) (r : Result Table Refusal) : Type 0 where
  pub said : meaning (answered r) ≡ want
  pub table : IfOk r (Whole width b)
