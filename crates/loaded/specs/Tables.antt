-- The tables of a loaded file as the stages see them: all are the file's own bytes, at the places that the loader found. What is known of a file that was
-- accepted is `Usable` (`loaded_usable` of proofs/Bytes.antt), and every stage finds there what it asks (proofs/Laws.antt): no table is checked again.
use Rattle.std.specs.Prelude.{ℕ, ◌+◌, ◌≤◌, ◌≡◌, List, map, length}
use Rattle.obj.specs.Records.{section_at}
use Rattle.tables.specs.Tables.{main_ceilings}
use Rattle.load.specs.Load.{Loaded}
use Rattle.load.specs.Good.{AllGood, Good}
use Rattle.loaded.specs.declared.Loaded.{Loaded as Lent}
use Rattle.names.specs.declared.Names.{Names}
use Rattle.obj.specs.declared.Table.{Table}
use Rattle.sections.specs.declared.Obj.{Obj}
use Rattle.names.specs.Names.{names_of}
use Rattle.sections.specs.Image.{Image, image_of}
use Rattle.sections.specs.Sections.{Sections, sections_of}

-- what was loaded, by its columns
abbrev pub tables_with : (names lengths sections symbols relocations splits units : List ℕ) → Loaded
tables_with names lengths sections symbols relocations splits units = record {
  names = names;
  lengths = lengths;
  sections = sections;
  symbols = symbols;
  relocations = relocations;
  splits = splits;
  units = units;
}

-- .. all that a loaded file's columns say, and its names
abbrev pub tables_of : Lent → Loaded
tables_of l = tables_with l.names.now l.lengths.now l.sections.now l.symbols.now l.relocs.now l.partials.now l.units.now

abbrev pub file_names : Lent → List (List ℕ)
file_names l = names_of l.file.now l.names.now l.lengths.now (length l.names.now)

abbrev pub image_from : (file : List ℕ) → Loaded → Image
image_from file t = image_of file t.symbols file t.names t.lengths

-- a section's bytes stand behind the 15 bytes of its head
abbrev pub byte_places : (places : List ℕ) → List ℕ
byte_places places = map (λ place. place + 15) places

abbrev pub sections_from : (file : List ℕ) → Loaded → Sections
sections_from file t = sections_of file t.sections file (byte_places t.sections)

-- ---- the tables of its bytes, as the stages take them

abbrev pub names_in : Lent → Names
names_in l = record { bytes = l.file; places = l.names; lengths = l.lengths }

abbrev pub heads_in : Lent → Table
heads_in l = record { bytes = l.file; places = l.sections }

abbrev pub image_in : Lent → Table
image_in l = record { bytes = l.file; places = l.images }

abbrev pub obj_in : Lent → Obj
obj_in l = record { symbols = record { bytes = l.file; places = l.symbols }; order = l.order; names = names_in l; heads = heads_in l }

-- ---- what is known of it

-- the section whose head is at `at` has its bytes in the file, behind its head: "Section bytes equal size, none for bss"
pub record Bytes (file : List ℕ) (at : ℕ) : Type 0 where
  pub inside : ((section_at file at).kind ≡ 3 → ⊥) → at + 15 + (section_at file at).size ≤ length file

-- an accepted file: no record has a fault, and every section has its bytes
pub record Usable (file : List ℕ) (t : Loaded) : Type 0 where
  pub small : length file ≤ 65536
  pub good : Good main_ceilings file t
  pub bytes : AllGood 15 file (λ at. at) (Bytes file) t.sections
