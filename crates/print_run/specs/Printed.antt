-- What the functions that print a run are given, which makes each read and each line safe, and what they write. What is listed is `listing` of
-- listing/specs/Listing.antt, a line at a time from its first cursor on (`lines_listing` of listing/proofs/Whole.antt).
use Rattle.std.specs.Prelude.{ℕ, ◌≤◌, List, length}
use Rattle.std.specs.declared.option.Option.{Option}
use Rattle.std.specs.Io.KnownBytes.{Appends}
use Rattle.names.specs.Append.{Columns as Beside}
use Rattle.tables.specs.declared.Counts as load
use Rattle.load.specs.Columns.{tables_in}
use Rattle.pieces.specs.declared.Counts.{Counts}
use Rattle.run.specs.declared.Ran.{Ran}
use Rattle.std.specs.Prelude.{Result, Ok, Err}
use Rattle.order.specs.declared.Unlinked.{Unlinked}
use Rattle.order.specs.Columns.{refusal_of}
use Rattle.run_file.specs.declared.RanFile.{RanFile}
use Rattle.run_file.specs.RunFile.{Runs}
use Rattle.splits.specs.Columns.{Columns}
use Rattle.lines.specs.Lines.{refused_line}
use Rattle.listing.specs.Listing.{listing}
use Rattle.listing.specs.Tables.{Readable, run_of}
use Rattle.listing.specs.Room.{Kept}
use Rattle.listing.specs.declared.piece_lists.PieceLists.{PieceLists}
use Rattle.run_listing.specs.Tables.{listed_tables}

-- a run that was done, in its tables: n units, and what the walk made. The loader's columns have a place for each record.
pub record Printable (file : List ℕ) (counts : load.Counts) (places lengths : List ℕ) (added : Beside) (units : List ℕ) (n : ℕ) (pieces entries offsets : List ℕ) (made : Counts) : Type 0 where
  pub places_long : 14464 ≤ length places
  pub lengths_long : 4096 ≤ length lengths
  pub names : counts.names ≤ 4096
  pub symbols : counts.symbols ≤ 4096
  pub relocations : counts.relocations ≤ 4096
  pub few : n ≤ 1024
  pub readable : Readable (listed_tables file (tables_in counts places lengths) added units pieces entries offsets n made)

-- .. read of what the walk gave
abbrev pub PrintableLists : (file : List ℕ) → load.Counts → (places lengths : List ℕ) → Beside → (units : List ℕ) → (n : ℕ) → PieceLists → Type 0
PrintableLists file counts places lengths added units n l =
    Printable file counts places lengths added units n l.pieces.now l.symbols.now l.relocs.now l.made

-- .. where the records lie in their tables; and a run that was not done asks nothing of them
abbrev pub PrintableIf : (file : List ℕ) → load.Counts → (places lengths : List ℕ) → Beside → (units pieces entries offsets : List ℕ) → Result Ran Unlinked → Type 0
PrintableIf file counts places lengths added units pieces entries offsets (Ok r) =
    Kept pieces entries offsets r.made × Printable file counts places lengths added units r.units pieces entries offsets r.made
PrintableIf file counts places lengths added units pieces entries offsets (Err why) = Unit {0}

-- ---- what is written

-- of a run that was done: the listing of its tables, of n units
unfoldable pub done_text : (file : List ℕ) → load.Counts → (places lengths : List ℕ) → Beside → (units : List ℕ) → (n : ℕ) → (pieces entries offsets : List ℕ) → Counts → List ℕ
done_text file counts places lengths added units n pieces entries offsets made =
    listing (run_of (listed_tables file (tables_in counts places lengths) added units pieces entries offsets n made))

abbrev pub lists_text : (file : List ℕ) → load.Counts → (places lengths : List ℕ) → Beside → (units : List ℕ) → (n : ℕ) → PieceLists → List ℕ
lists_text file counts places lengths added units n l =
    done_text file counts places lengths added units n l.pieces.now l.symbols.now l.relocs.now l.made

-- of each answer of a run: "A refusal prints only `refused`, number, section, address", and "61 cycle" is a refusal here, at section and address 0
abbrev pub text_of : (file : List ℕ) → load.Counts → (places lengths : List ℕ) → Beside → (units pieces entries offsets : List ℕ) → Result Ran Unlinked → List ℕ
text_of file counts places lengths added units pieces entries offsets (Ok r) = done_text file counts places lengths added units r.units pieces entries offsets r.made
text_of file counts places lengths added units pieces entries offsets (Err why) =
    refused_line (refusal_of why).number (refusal_of why).section (refusal_of why).address

-- "Outputs: 1,024 pieces, 4,096 piece symbols, 4,096 piece relocations"
abbrev pub main_room : Counts
main_room = record { pieces = 1024; symbols = 4096; relocs = 4096 }

-- of a record file: the text of the answer of its run, with document 01's ceilings and room for so many units and so much output, in tables that hold what the answer means
pub record Prints (file : List ℕ) (units-room : ℕ) (room : Counts) (old new : Option (List ℕ)) : Type 0 where
  pub answer : RanFile
  pub places : List ℕ
  pub lengths : List ℕ
  pub added : Beside
  pub table : Columns
  pub units : List ℕ
  pub pieces : List ℕ
  pub entries : List ℕ
  pub offsets : List ℕ
  pub runs : Runs file 4096 65535 1024 units-room room answer places lengths added table units pieces entries offsets
  pub written : Appends old new (text_of file answer.counts places lengths added units pieces entries offsets answer.ran)
