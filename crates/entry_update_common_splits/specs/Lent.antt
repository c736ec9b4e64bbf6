-- The entry's definitions over the tables that its functions are lent, and what these ask of the sections.
use Rattle.std.specs.Prelude.{ℕ, List, Option, None, Some, is_some, unwrap_or}
use Rattle.lists.specs.Outcome.{Outcome}
use Rattle.obj.specs.declared.Split.{Split}
use Rattle.obj.specs.declared.Table.{Table}
use Rattle.names.specs.declared.Names.{Names}
use Rattle.tables.specs.Records.{sections_in}
use Rattle.common.specs.Sections.{bss_numbers}
use Rattle.lent_tables.specs.declared.StageTables.{StageTables}
use Rattle.entry_update_common_splits.specs.Entry.{update_of, from_splits, from_sections}

abbrev pub splits_outcome : Names → (heads : Table) → (splits : List ℕ) → (given : Option ℕ) → (size : ℕ) → Outcome (List Split)
splits_outcome names heads splits given size =
    from_splits names.lengths.now (sections_in heads.bytes.now heads.places.now) (bss_numbers names heads) splits (is_some given) (unwrap_or given 0) size

abbrev pub sections_outcome : Names → StageTables → (given : Option ℕ) → (size : ℕ) → Outcome (List Split)
sections_outcome names lent given size =
    from_sections names.bytes.now names.places.now names.lengths.now lent.sections.now lent.splits.now (is_some given) (unwrap_or given 0) size

-- with a start or none: `has_start` 0 is none, anything else a start
abbrev pub update_with : (ends bytes sections splits : List ℕ) → (given : Option ℕ) → (size : ℕ) → Outcome (List Split)
update_with ends bytes sections splits None size = update_of ends bytes sections splits 0 0 size
update_with ends bytes sections splits (Some start) size = update_of ends bytes sections splits 1 start size

abbrev pub tables_outcome : StageTables → (given : Option ℕ) → (size : ℕ) → Outcome (List Split)
tables_outcome lent given size = update_with lent.name_ends.now lent.name_bytes.now lent.sections.now lent.splits.now given size
