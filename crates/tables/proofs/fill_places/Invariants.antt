-- The first i places are those of a table of i records.
use Rattle.std.proofs.Common.{◌≡◌, take}
use Rattle.obj.specs.Records.{stage_places}
use Rattle.tables.proofs.fill_places.Given as goal

abbrev pub invariant-loop-i : goal.invariant-loop-i
invariant-loop-i l = take l.i l.places ≡ stage_places l.width l.i
