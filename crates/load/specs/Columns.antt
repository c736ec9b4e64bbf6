-- The lent columns that hold what is loaded. One column has all places: a part for each kind, from a fixed base on, and a last part with one
-- number for each section, one more than the address of its last relocation. Beside it stand the lengths of the names and their index.
-- What the columns mean is `tables_in`; a later stage is lent the parts, `&places[SECTIONS..SECTIONS + n]`.
use Rattle.std.specs.Prelude.{ℕ, ◌+◌, ◌≤◌, ◌<◌, ◌≡◌, Bool, cond, List, length, get_or, take, drop, eqb, ltb, Result, Ok, Err}
use Rattle.lists.specs.Outcome.{Outcome, accepted, refused}
use Rattle.obj.specs.Records.{reloc_at}
use Rattle.obj.specs.declared.Refusal.{Refusal}
use Rattle.names.specs.Index.{Indexed}
use Rattle.tables.specs.declared.Counts.{Counts, Counts as Ceilings}
use Rattle.tables.specs.Tables.{AllHeld}
use Rattle.tables.specs.Records.{relocs_in, floor_from}
use Rattle.load.specs.Load.{Loaded, names_in, with_record}
use Rattle.load.specs.Good.{NamesGood, Good}

-- n numbers of a column, from a base on
unfoldable pub part : (base n : ℕ) → List ℕ → List ℕ
part base n column = take n (drop base column)

-- what the columns mean
unfoldable pub tables_in : Counts → (places lengths : List ℕ) → Loaded
tables_in n places lengths = record {
  names = part 10304 n.names places;
  lengths = take n.names lengths;
  sections = part 0 n.sections places;
  symbols = part 64 n.symbols places;
  relocations = part 4160 n.relocations places;
  splits = part 8256 n.splits places;
  units = part 9280 n.units places;
}

-- the numbers of the last relocations, one for each section
abbrev pub floors_in : (places : List ℕ) → List ℕ
floors_in places = part 14400 64 places

abbrev pub no_counts : Counts
no_counts = record { names = 0; sections = 0; symbols = 0; relocations = 0; splits = 0; units = 0 }

abbrev pub one_if : Bool → ℕ
one_if test = cond test 1 0

-- one record more of a kind
unfoldable pub one_more : (kind : ℕ) → Counts → Counts
one_more kind n = record {
  names = n.names + one_if (eqb kind 1);
  sections = n.sections + one_if (eqb kind 2);
  symbols = n.symbols + one_if (eqb kind 3);
  relocations = n.relocations + one_if (eqb kind 4);
  splits = n.splits + one_if (eqb kind 5);
  units = n.units + one_if (eqb kind 6);
}

-- where the place of the next record of a kind goes
unfoldable pub slot_of : (kind : ℕ) → Counts → ℕ
slot_of kind n =
    cond (eqb kind 1) (10304 + n.names)
    (cond (eqb kind 2) (0 + n.sections)
    (cond (eqb kind 3) (64 + n.symbols)
    (cond (eqb kind 4) (4160 + n.relocations)
    (cond (eqb kind 5) (8256 + n.splits) (9280 + n.units)))))

-- ---- what the functions take as given

-- "64 sections, 4,096 symbols, 4,096 relocations, 1,024 splits, 1,024 units, 4,096 names", or fewer
pub record Allowed (c : Ceilings) : Type 0 where
  pub names : c.names ≤ 4096
  pub sections : c.sections ≤ 64
  pub symbols : c.symbols ≤ 4096
  pub relocations : c.relocations ≤ 4096
  pub splits : c.splits ≤ 1024
  pub units : c.units ≤ 1024

-- the lent columns are long enough
pub record Room (c : Ceilings) (places lengths heads chain : List ℕ) : Type 0 where
  pub allowed : Allowed c
  pub long_places : 14464 ≤ length places
  pub long_lengths : 4096 ≤ length lengths
  pub long_heads : length heads ≡ 8192
  pub long_chain : 4096 ≤ length chain

-- the counts are within the ceilings
pub record Few (c : Ceilings) (n : Counts) : Type 0 where
  pub names : n.names ≤ c.names
  pub sections : n.sections ≤ c.sections
  pub symbols : n.symbols ≤ c.symbols
  pub relocations : n.relocations ≤ c.relocations
  pub splits : n.splits ≤ c.splits
  pub units : n.units ≤ c.units

-- so they can grow by one
pub record Counted (n : Counts) : Type 0 where
  pub names : n.names ≤ 4096
  pub sections : n.sections ≤ 64
  pub symbols : n.symbols ≤ 4096
  pub relocations : n.relocations ≤ 4096
  pub splits : n.splits ≤ 1024
  pub units : n.units ≤ 1024

-- the relocation at `at` has places for itself and for its section's floor
pub record RelocFits (file : List ℕ) (at : ℕ) (places : List ℕ) (n : Counts) : Type 0 where
  pub held : at + 23 ≤ length file
  pub section : (reloc_at file at).section < 64
  pub address : (reloc_at file at).address < 4294967295
  pub slot : n.relocations < 4096
  pub long : 14464 ≤ length places

-- the columns hold good tables of a file, and the relocations' floors
pub record Tabled (c : Ceilings) (file : List ℕ) (n : Counts) (places lengths : List ℕ) : Type 0 where
  pub allowed : Allowed c
  pub few : Few c n
  pub small : length file ≤ 65536
  pub long_places : 14464 ≤ length places
  pub long_lengths : 4096 ≤ length lengths
  pub good : Good c file (tables_in n places lengths)
  pub floors : (s : ℕ) → get_or (floors_in places) s 0 ≡ floor_from s 0 (relocs_in file (tables_in n places lengths).relocations)

-- and the index of the names
pub record Ready (c : Ceilings) (file : List ℕ) (n : Counts) (places lengths heads chain : List ℕ) : Type 0 where
  pub tabled : Tabled c file n places lengths
  pub indexed : Indexed (names_in file (tables_in n places lengths)) heads chain

-- what the decision on a record takes of that
pub record Readable (c : Ceilings) (file : List ℕ) (n : Counts) (places lengths heads chain : List ℕ) : Type 0 where
  pub allowed : Allowed c
  pub few : Few c n
  pub small : length file ≤ 65536
  pub long_places : 14464 ≤ length places
  pub long_lengths : 4096 ≤ length lengths
  pub names : NamesGood file (tables_in n places lengths).names (tables_in n places lengths).lengths
  pub sections : AllHeld 15 file (part 0 n.sections places)
  pub floors : (s : ℕ) → get_or (floors_in places) s 0 ≡ floor_from s 0 (relocs_in file (tables_in n places lengths).relocations)
  pub indexed : Indexed (names_in file (tables_in n places lengths)) heads chain

-- the columns hold what is loaded with the record whose payload is at `at`; t is what was loaded before it
pub record Kept (c : Ceilings) (file : List ℕ) (at len kind : ℕ) (t : Loaded) (n : Counts) (places lengths heads chain : List ℕ) : Type 0 where
  pub ready : Ready c file n places lengths heads chain
  pub tables : tables_in n places lengths ≡ with_record c file at len t kind

-- ---- what the functions give

-- the number of a record's first fault as an error, nothing for a record without one
abbrev pub fault_as : (number : ℕ) → Result (Unit {0}) ℕ
fault_as number = cond (ltb 0 number) (Err number) (Ok tt)

-- what an answer means: the tables that its counts say of the columns, or its refusal
abbrev pub loaded_as : Result Counts Refusal → (places lengths : List ℕ) → Outcome Loaded
loaded_as (Ok n) places lengths = accepted (tables_in n places lengths)
loaded_as (Err r) places lengths = refused r.number r.section r.address

-- how many records of each kind are loaded, none after a refusal
abbrev pub counts_in : Outcome Loaded → Counts
counts_in (accepted t) = record {
  names = length t.names;
  sections = length t.sections;
  symbols = length t.symbols;
  relocations = length t.relocations;
  splits = length t.splits;
  units = length t.units;
}
counts_in (refused number section address) = no_counts

-- the answer, its counts and the columns are this outcome's; what is accepted is ready for the stages
pub record Loads (c : Ceilings) (file : List ℕ) (o : Outcome Loaded) (r : Result Counts Refusal) (places lengths heads chain : List ℕ) : Type 0 where
  pub means : loaded_as r places lengths ≡ o
  pub counted : (n : Counts) → r ≡ Ok n → n ≡ counts_in o
  pub ready : (n : Counts) → r ≡ Ok n → Ready c file n places lengths heads chain
