-- The first i places are in the column.
use Rattle.std.proofs.Common.{◌≡◌, take}
use Rattle.tables.specs.Records.{image_places_of}
use Rattle.stage_symbols.proofs.take_image_places.Given as goal

abbrev pub invariant-loop-i : goal.invariant-loop-i
invariant-loop-i l = take l.i l.place-items ≡ take l.i (image_places_of l.b)
