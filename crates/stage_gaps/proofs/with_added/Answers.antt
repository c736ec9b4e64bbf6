-- Its columns hold every name that may be added and every gap that there can be, and no name is marked.
use Rattle.std.proofs.Common.{rules}
use Rattle.gaps.proofs.Marks.{clean_zeros}
use Rattle.gap_splits.proofs.Naming.{stand_none}
use Rattle.stage_gaps.proofs.Laws.{added_room}
use Rattle.stage_gaps.proofs.with_added.Goals as goal

pub invariant_of-added : goal.invariant_of-added
invariant_of-added c = record { stand = stand_none _ _ _ (added_room (search rules) (search rules) (search rules) c.requires.0) }

pub fill_rows-requires-clause-unmarked : goal.fill_rows-requires-clause-unmarked
fill_rows-requires-clause-unmarked c = search (rules, clean_zeros)
