-- The record file: document 01, "Records and ceilings" and "Refused, by place", Tables. "A record is a four-byte length of its payload, a
-- two-byte kind, the payload; all little-endian"; "Records are checked in file order, .. each for 1, 2, then its kind's number; a file over
-- 65,536 bytes is refused first, at record 0". A record's number is its place among all records of the file, repeated names counted
-- (DECISIONS.md, 7). What is loaded are the places of the records' payloads: nothing is copied.
use Rattle.std.specs.Prelude.{ℕ, zero, suc, ◌+◌, List, [], ◌∷◌, ◌++◌, Bool, true, cond, not, length, get_or, take, drop, eqb, ltb, leb}
use Rattle.lists.specs.Outcome.{Outcome, accepted, refused, refuse, ◌>>◌}
use Rattle.fields.specs.Fields.{le16, le32}
use Rattle.obj.specs.Records.{section_at, symbol_at, reloc_at, partial_at, unit_at, partial_width}
use Rattle.obj.specs.Nothing.{no_section}
use Rattle.names.specs.Names.{names_of, number_of, name_bad}
use Rattle.faults.specs.Faults.{section_bad, symbol_bad, reloc_bad, split_bad, unit_bad}
use Rattle.tables.specs.declared.Counts.{Counts as Ceilings}
use Rattle.tables.specs.Records.{sections_in, relocs_in, floor_from}

-- what has been loaded: where the payloads of each kind's records start; of the names also their lengths
pub record Loaded : Type 0 where
  pub names : List ℕ
  pub lengths : List ℕ
  pub sections : List ℕ
  pub symbols : List ℕ
  pub relocations : List ℕ
  pub splits : List ℕ
  pub units : List ℕ

abbrev pub nothing : Loaded
nothing = record { names = []; lengths = []; sections = []; symbols = []; relocations = []; splits = []; units = [] }

-- the names so far
unfoldable pub names_in : (file : List ℕ) → Loaded → List (List ℕ)
names_in file t = names_of file t.names t.lengths (length t.names)

-- "then its bytes unless kind 3", "Section bytes equal size": the payload of a section has another length
unfoldable pub section_length : (file : List ℕ) → (at len : ℕ) → Bool
section_length file at len =
    cond (ltb len 15) true
    (cond (eqb (section_at file at).kind 3) (not (eqb len 15)) (not (eqb len (15 + (section_at file at).size))))

-- ---- the number of a record's first fault, 0 if it has none: "1, 2, then its kind's number". `at` is where its payload starts, `len` the
-- payload's length; "Records refer only to earlier ones"
module _ (c : Ceilings) (file : List ℕ) (at len : ℕ) (t : Loaded) where
  -- this name is there already: "a repeated name adds none", so it is never 2 or 3
  unfoldable pub repeated : Bool
  repeated = ltb (number_of (names_in file t) (take len (drop at file))) (length t.names)

  -- "1 name (bytes 0x21..0x7E)": it has no wrong payload length for 1 (DECISIONS.md, 4)
  unfoldable pub name_number : ℕ
  name_number =
      cond repeated 0
      (cond (leb c.names (length t.names)) 2
      (cond (name_bad (take len (drop at file))) 3 0))

  unfoldable pub section_number : ℕ
  section_number =
      cond (section_length file at len) 1
      (cond (leb c.sections (length t.sections)) 2
      (cond (section_bad (get_or t.lengths (section_at file at).name 0) (section_at file at)) 4 0))

  unfoldable pub symbol_number : ℕ
  symbol_number =
      cond (not (eqb len 20)) 1
      (cond (leb c.symbols (length t.symbols)) 2
      (cond (symbol_bad (length t.names) (length t.sections) (get_or (sections_in file t.sections) (symbol_at file at).section no_section) (symbol_at file at)) 5 0))

  unfoldable pub reloc_number : ℕ
  reloc_number =
      cond (not (eqb len 23)) 1
      (cond (leb c.relocations (length t.relocations)) 2
      (cond (reloc_bad (length t.sections) (length t.symbols) (get_or (sections_in file t.sections) (reloc_at file at).section no_section)
      (floor_from (reloc_at file at).section 0 (relocs_in file t.relocations)) (reloc_at file at)) 6 0))

  -- "a split's section is left to 20"
  unfoldable pub split_number : ℕ
  split_number =
      cond (not (eqb len partial_width)) 1
      (cond (leb c.splits (length t.splits)) 2
      (cond (split_bad (get_or t.lengths (partial_at 65535 file at).unit 0) (get_or t.lengths (partial_at 65535 file at).rename 0) (partial_at 65535 file at)) 7 0))

  unfoldable pub unit_number : ℕ
  unit_number =
      cond (not (eqb len 8)) 1
      (cond (leb c.units (length t.units)) 2
      (cond (unit_bad (get_or t.lengths (unit_at file at).name 0) (unit_at file at)) 8 0))

  -- by kind; "1 .. unknown kind"
  unfoldable pub kind_number : ℕ → ℕ
  kind_number kind =
      cond (eqb kind 1) name_number
      (cond (eqb kind 2) section_number
      (cond (eqb kind 3) symbol_number
      (cond (eqb kind 4) reloc_number
      (cond (eqb kind 5) split_number
      (cond (eqb kind 6) unit_number 1)))))

  -- what is loaded with this record
  unfoldable pub with_record : ℕ → Loaded
  with_record kind =
      cond (eqb kind 1)
      (cond repeated t (record {
        names = t.names ++ (at ∷ []);
        lengths = t.lengths ++ (len ∷ []);
        sections = t.sections;
        symbols = t.symbols;
        relocations = t.relocations;
        splits = t.splits;
        units = t.units;
      }))
      (record {
        names = t.names;
        lengths = t.lengths;
        sections = cond (eqb kind 2) (t.sections ++ (at ∷ [])) t.sections;
        symbols = cond (eqb kind 3) (t.symbols ++ (at ∷ [])) t.symbols;
        relocations = cond (eqb kind 4) (t.relocations ++ (at ∷ [])) t.relocations;
        splits = cond (eqb kind 5) (t.splits ++ (at ∷ [])) t.splits;
        units = cond (eqb kind 6) (t.units ++ (at ∷ [])) t.units;
      })

-- the record whose four-byte length stands at `at`: "1 file cut" within its head or its payload, then as its kind says
unfoldable pub record_number : Ceilings → (file : List ℕ) → (at : ℕ) → Loaded → ℕ
record_number c file at t =
    cond (ltb (length file) (at + 6)) 1
    (cond (ltb (length file) (at + 6 + le32 file at)) 1
    (kind_number c file (at + 6) (le32 file at) t (le16 file (at + 4))))

-- the records from `at` on, the first of them record r; each takes six bytes at least, so a fuel of the bytes that are left is enough
unfoldable pub load_from : ℕ → Ceilings → (file : List ℕ) → (at r : ℕ) → Loaded → Outcome Loaded
load_from zero c file at r t = accepted t
load_from (suc fuel) c file at r t =
    cond (leb (length file) at) (accepted t)
    (cond (ltb 0 (record_number c file at t)) (refused (record_number c file at t) 0 r)
    (load_from fuel c file (at + 6 + le32 file at) (suc r) (with_record c file (at + 6) (le32 file at) t (le16 file (at + 4)))))

-- the whole file
unfoldable pub load_of : Ceilings → List ℕ → Outcome Loaded
load_of c file = do
  -- "a file over 65,536 bytes is refused first, at record 0"
  refuse 1 0 0 (ltb 65536 (length file))
  load_from (length file) c file 0 0 nothing
