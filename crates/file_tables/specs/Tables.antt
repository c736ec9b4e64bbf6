-- The stage tables of a loaded file, as a caller of the stages' entries would lend them: each kind's records one after another, the names with their ends, and the
-- file itself as the image, at the places where the sections' bytes lie in it. The laws of proofs/ say that reading them gives what the file gives, and that the checks
-- of every table pass.
use Rattle.std.specs.Prelude.{ℕ, ◌≤◌, ◌≡◌, false, length, take, drop}
use mathlib.Core.List.{List, [], ◌∷◌, ◌++◌, Memᴰ}
use Rattle.fields.specs.Fields.{enc32}
use Rattle.names.specs.Names.{name_bad}
use Rattle.names.specs.Index.{Different}
use Rattle.load.specs.Load.{Loaded}
use Rattle.loaded.specs.Tables.{byte_places}
use Rattle.gap_splits.specs.Entering.{bytes_of}
use Rattle.obj.specs.Records.{partial_width}

-- the records of `width` bytes at these places, one after another
unfoldable pub records_at : (width : ℕ) → (file places : List ℕ) → List ℕ
records_at width file [] = []
records_at width file (at ∷ places) = take width (drop at file) ++ records_at width file places

-- numbers of four bytes, one after another
unfoldable pub words : List ℕ → List ℕ
words [] = []
words (x ∷ l) = enc32 x ++ words l

-- the tables but names
pub record Tables : Type 0 where
  pub sections : List ℕ
  pub places : List ℕ
  pub symbols : List ℕ
  pub relocations : List ℕ
  pub partials : List ℕ
  pub units : List ℕ

abbrev pub tables_of : (file : List ℕ) → Loaded → Tables
tables_of file t = record {
  sections = records_at 15 file t.sections;
  places = words (byte_places t.sections);
  symbols = records_at 20 file t.symbols;
  relocations = records_at 23 file t.relocations;
  partials = records_at partial_width file t.splits;
  units = records_at 8 file t.units;
}

-- names that a name table may hold: "4,096 names of 65,535 bytes in all", each of good bytes and length, no two alike
pub record Clean (names : List (List ℕ)) : Type 0 where
  pub few : length names ≤ 4096
  pub short : bytes_of names ≤ 65535
  pub good : (x : List ℕ) → Memᴰ x names → name_bad x ≡ false
  pub different : Different names
