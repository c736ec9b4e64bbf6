-- The outputs that are lent to a run: their sizes, what is left in them, and that a function leaves those that were lent.
use Rattle.std.specs.Prelude.{◌≡◌, length}
use Rattle.names.specs.Append.{Columns as Beside}
use Rattle.names.specs.declared.Names.{Names}
use Rattle.splits.specs.Table.{columns_of}
use Rattle.splits.specs.declared.split_table.SplitColumns.{SplitColumns}
use Rattle.gap_splits.specs.Added.{beside}
use Rattle.run.specs.Run.{Result}
use Rattle.run_outputs.specs.Laid.{Sizes, Laid}
use Rattle.run_outputs.specs.Kept.{left_in, Fits, sizes_of}
use Rattle.run.specs.declared.Ran.{Ran}
use Rattle.run_outputs.specs.declared.RunOutputs.{RunOutputs}

-- the columns of the names that were added
abbrev pub beside_of : Names → Beside
beside_of added = beside added.bytes.now added.places.now added.lengths.now

abbrev pub sizes_in : RunOutputs → Sizes
sizes_in o =
    sizes_of o.ends.now o.bytes.now o.splits.now o.units.now o.pieces.now o.entries.now o.offsets.now o.counts.now

-- what the tables hold, of which so many records are kept
abbrev pub left_to : (added : Names) → SplitColumns → RunOutputs → Ran → Result
left_to added splits o k =
    left_in (beside_of added) (columns_of splits) o.units.now o.pieces.now o.entries.now o.offsets.now k

-- .. which is there, and fits into the outputs
abbrev pub FitsIn : (added : Names) → RunOutputs → Ran → Type 0
FitsIn added o k = Fits (beside_of added) o.units.now (sizes_in o) k

-- what is laid into outputs that were `before` and are `after`
abbrev pub LaidIn : Result → (before after : RunOutputs) → Type 0
LaidIn r before after =
    Laid r (sizes_in before) after.ends.now after.bytes.now after.splits.now after.units.now after.pieces.now after.entries.now after.offsets.now
    after.counts.now

-- the outputs are still those that were lent, of the same lengths
pub record SameOutputs (before after : RunOutputs) : Type 0 where
  pub ends : after.ends.ghost_name ≡ before.ends.ghost_name
  pub bytes : after.bytes.ghost_name ≡ before.bytes.ghost_name
  pub splits : after.splits.ghost_name ≡ before.splits.ghost_name
  pub units : after.units.ghost_name ≡ before.units.ghost_name
  pub pieces : after.pieces.ghost_name ≡ before.pieces.ghost_name
  pub entries : after.entries.ghost_name ≡ before.entries.ghost_name
  pub offsets : after.offsets.ghost_name ≡ before.offsets.ghost_name
  pub counts : after.counts.ghost_name ≡ before.counts.ghost_name
  pub ends_size : length after.ends.now ≡ length before.ends.now
  pub bytes_size : length after.bytes.now ≡ length before.bytes.now
  pub splits_size : length after.splits.now ≡ length before.splits.now
  pub units_size : length after.units.now ≡ length before.units.now
  pub pieces_size : length after.pieces.now ≡ length before.pieces.now
  pub entries_size : length after.entries.now ≡ length before.entries.now
  pub offsets_size : length after.offsets.now ≡ length before.offsets.now
  pub counts_size : length after.counts.now ≡ length before.counts.now
