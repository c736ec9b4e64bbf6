-- The tables of a run as the listing reads them: names, symbols and relocations lie in the file, the added names in their columns, the rest in the run's outputs.
use Rattle.std.specs.Prelude.{ℕ, List}
use Rattle.obj.specs.Records.{stage_places}
use Rattle.names.specs.Append.{Columns as Beside}
use Rattle.load.specs.Load.{Loaded}
use Rattle.pieces.specs.declared.Counts.{Counts}
use Rattle.listing.specs.Tables.{Tables}

-- n units, and what the walk made
abbrev pub listed_tables : (file : List ℕ) → Loaded → (added : Beside) → (units pieces entries offsets : List ℕ) → (n : ℕ) → (made : Counts) → Tables
listed_tables file t added units pieces entries offsets n made = record {
  base = record { bytes = file; places = t.names; lengths = t.lengths };
  added = added;
  symbols = record { bytes = file; places = t.symbols };
  relocs = record { bytes = file; places = t.relocations };
  units = record { bytes = units; places = stage_places 8 n };
  pieces = record { bytes = pieces; count = made.pieces };
  piece_symbols = record { bytes = entries; count = made.symbols };
  piece_relocs = record { bytes = offsets; count = made.relocs };
}
