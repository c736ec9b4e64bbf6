-- The entry's definitions over the tables that its functions are lent.
use Rattle.std.specs.Prelude.{ℕ, List}
use Rattle.lists.specs.Outcome.{Outcome}
use Rattle.obj.specs.declared.Table.{Table}
use Rattle.tables.specs.Records.{sections_in}
use Rattle.stage_splits.specs.StageSplits.{room_of}
use Rattle.mend.specs.Mend.{Mended}
use Rattle.entry_mend_splits.specs.Entry.{from_splits, from_sections}

abbrev pub splits_outcome : (lengths : List ℕ) → (heads : Table) → (splits : List ℕ) → (size room : ℕ) → Outcome Mended
splits_outcome lengths heads splits size room =
    from_splits lengths (sections_in heads.bytes.now heads.places.now) splits (room_of size) room

abbrev pub sections_outcome : (lengths sections splits : List ℕ) → (size room : ℕ) → Outcome Mended
sections_outcome lengths sections splits size room = from_sections lengths sections splits (room_of size) room
