-- The entry's definitions over the tables that its functions are lent, and what these ask of the sections.
use Rattle.std.specs.Prelude.{ℕ, List}
use Rattle.lists.specs.Outcome.{Outcome}
use Rattle.obj.specs.declared.Split.{Split}
use Rattle.obj.specs.declared.Table.{Table}
use Rattle.tables.specs.Records.{sections_in}
use Rattle.stage_splits.specs.StageSplits.{room_of}
use Rattle.lent_tables.specs.declared.StageTables.{StageTables}
use Rattle.entry_add_splits.specs.Entry.{add_splits_of, from_splits}

abbrev pub splits_outcome : (lengths : List ℕ) → (heads : Table) → StageTables → (size : ℕ) → Outcome (List Split)
splits_outcome lengths heads lent size = from_splits lengths (sections_in heads.bytes.now heads.places.now) lent.splits.now lent.partials.now (room_of size)

abbrev pub tables_outcome : StageTables → (size : ℕ) → Outcome (List Split)
tables_outcome lent size = add_splits_of lent.name_ends.now lent.name_bytes.now lent.sections.now lent.splits.now lent.partials.now size
