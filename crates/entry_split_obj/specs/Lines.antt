-- Inside the entry `split_obj`: its definition from the symbols on, over what the tables before them leave, and what the functions of the entry answer.
use Rattle.std.specs.Prelude.{ℕ, ◌/◌, List, length, Result, Ok, Err}
use Rattle.lists.specs.Outcome.{Outcome, ◌>>◌}
use Rattle.obj.specs.Records.{stage_places}
use Rattle.obj.specs.declared.Refusal.{Refusal}
use Rattle.obj.specs.declared.Section.{Section}
use Rattle.obj.specs.declared.Table.{Table}
use Rattle.names.specs.declared.Names.{Names}
use Rattle.lent_tables.specs.declared.StageTables.{StageTables}
use Rattle.tables.specs.Tables.{main_ceilings}
use Rattle.stage_tables.specs.StageTables.{symbols_check, relocs_check}
use Rattle.sections.specs.Image.{image_of}
use Rattle.sections.specs.Sections.{Sections, sections_lent}
use Rattle.relocs.specs.Relocs.{reloc_of}
use Rattle.pieces.specs.declared.Counts.{Counts}
use Rattle.walk.specs.Walk.{Output}
use Rattle.stage_walk.specs.Lines.{from_splits, heads_in, none}
use Rattle.entry_split_obj.specs.Entry.{Sizes, split_obj_of}

-- ---- the definition, from one table on

-- from the symbols on, over names and sections that passed
unfoldable pub from_symbols : (name_bytes name_places name_lengths : List ℕ) → (heads : List Section) → Sections → (symbols relocs splits units : List ℕ) → (room : Counts) → Outcome Output
from_symbols name_bytes name_places name_lengths heads sections symbols relocs splits units room = do
  symbols_check main_ceilings.symbols (length name_lengths) heads symbols
  relocs_check main_ceilings.relocations heads (length symbols / 20) relocs
  from_splits name_lengths heads (image_of symbols (stage_places 20 (length symbols / 20)) name_bytes name_places name_lengths) sections
      (reloc_of relocs (stage_places 23 (length relocs / 23))) (length relocs / 23) splits units room

-- .. by the structs that hold the tables
abbrev pub from_symbols_in : Names → (heads image : Table) → StageTables → (room : Counts) → Outcome Output
from_symbols_in n heads image t room =
    from_symbols n.bytes.now n.places.now n.lengths.now (heads_in heads) (sections_lent heads image) t.symbols.now t.relocs.now t.splits.now t.units.now room

-- the whole definition, of the tables that are lent together
abbrev pub split_obj_in : StageTables → (room : Counts) → Outcome Output
split_obj_in t room =
    split_obj_of t.name_ends.now t.name_bytes.now t.sections.now t.section_places.now t.image.now t.symbols.now t.relocs.now t.splits.now t.units.now room

-- ---- what is answered

-- how many of the records that are made an answer leaves
abbrev pub made_by : Result (Unit {0}) Refusal → Counts → Counts
made_by (Ok u) made = made
made_by (Err r) made = none

abbrev pub sizes_of : (pieces entries offsets counts : List ℕ) → Sizes
sizes_of pieces entries offsets counts = record { pieces = length pieces; symbols = length entries; relocs = length offsets; counts = length counts }
