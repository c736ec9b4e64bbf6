-- The tables that the end of a run writes: how much output they hold, what an answer means over them, and that a function leaves the tables that were lent.
use Rattle.std.specs.Prelude.{◌≡◌, length, Result}
use Rattle.lists.specs.Outcome.{Outcome}
use Rattle.names.specs.Append.{Columns as Beside}
use Rattle.splits.specs.Columns.{Columns}
use Rattle.pieces.specs.declared.Counts.{Counts}
use Rattle.stage_walk.specs.Room.{room_in}
use Rattle.order.specs.declared.Unlinked.{Unlinked}
use Rattle.run.specs.declared.Ran.{Ran}
use Rattle.run.specs.declared.RunTables.{RunTables}
use Rattle.run.specs.Run.{Ended}
use Rattle.run.specs.Answers.{ran_in}

-- how many records of the walk's output they hold
abbrev pub room_lent : RunTables → Counts
room_lent t = room_in (length t.pieces.now) (length t.entries.now) (length t.offsets.now)

-- what an answer means, with the names beside the file's and the split table in its columns
abbrev pub ran_to : Beside → Columns → RunTables → Result Ran Unlinked → Outcome Ended
ran_to c table t r = ran_in c table t.units.now t.pieces.now t.entries.now t.offsets.now r

-- the tables are still those that were lent, of the same lengths
pub record SameLent (before after : RunTables) : Type 0 where
  pub units : after.units.ghost_name ≡ before.units.ghost_name
  pub pieces : after.pieces.ghost_name ≡ before.pieces.ghost_name
  pub entries : after.entries.ghost_name ≡ before.entries.ghost_name
  pub offsets : after.offsets.ghost_name ≡ before.offsets.ghost_name
  pub units_size : length after.units.now ≡ length before.units.now
  pub pieces_size : length after.pieces.now ≡ length before.pieces.now
  pub entries_size : length after.entries.now ≡ length before.entries.now
  pub offsets_size : length after.offsets.now ≡ length before.offsets.now
