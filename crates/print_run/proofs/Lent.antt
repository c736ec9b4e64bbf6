-- The parts of the loader's column, as they are lent, are the tables that are listed.
-- Assumes nothing.
use Prim.Native.Nat.{ℕ}
use mathlib.Core.Path.{◌≡◌, refl}
use mathlib.Core.List.{List}
use lib.ListN.{take}
use Rattle.obj.specs.Records.{stage_places}
use Rattle.names.specs.Append.{Columns as Beside}
use Rattle.tables.specs.declared.Counts as load
use Rattle.load.specs.Columns.{part, tables_in}
use Rattle.pieces.specs.declared.Counts.{Counts}
use Rattle.listing.specs.Listing.{listing}
use Rattle.listing.specs.Tables.{Tables, Readable, run_of}
use Rattle.print_run.specs.Printed.{done_text, Printable}

-- the tables that are lent, of a column of the units' places
abbrev lent_tables : (file places lengths : List ℕ) → load.Counts → Beside → (units column : List ℕ) → (n : ℕ) → (pieces entries offsets : List ℕ) → Counts → Tables
lent_tables file places lengths counts added units column n pieces entries offsets made = record {
  base = record { bytes = file; places = part 10304 counts.names places; lengths = take counts.names lengths };
  added = added;
  symbols = record { bytes = file; places = part 64 counts.symbols places };
  relocs = record { bytes = file; places = part 4160 counts.relocations places };
  units = record { bytes = units; places = take n column };
  pieces = record { bytes = pieces; count = made.pieces };
  piece_symbols = record { bytes = entries; count = made.symbols };
  piece_relocs = record { bytes = offsets; count = made.relocs };
}

pub readable_lent : {file places lengths units pieces entries offsets : List ℕ} {counts : load.Counts} {added : Beside} {n : ℕ} {made : Counts}
    → Printable file counts places lengths added units n pieces entries offsets made
    → (column : List ℕ)
    → take n column ≡ stage_places 8 n
    → Readable (lent_tables file places lengths counts added units column n pieces entries offsets made)
unfolding tables_in
readable_lent p column e =
    rw e p.readable

-- .. and what is listed of them is what the run prints
pub listed_lent : (file places lengths units pieces entries offsets : List ℕ) (counts : load.Counts) (added : Beside) (n : ℕ) (made : Counts) (column : List ℕ)
    → take n column ≡ stage_places 8 n
    → listing (run_of (lent_tables file places lengths counts added units column n pieces entries offsets made))
    ≡ done_text file counts places lengths added units n pieces entries offsets made
unfolding tables_in done_text
listed_lent file places lengths units pieces entries offsets counts added n made column e =
    rw e refl
