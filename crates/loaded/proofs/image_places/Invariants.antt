-- The loop of `loaded::image_places`: the first i places are in the column.
use mathlib.Core.Path.{◌≡◌}
use lib.ListN.{take}
use Rattle.loaded.specs.Tables.{byte_places}
use Rattle.loaded.proofs.image_places.Given as goal

abbrev pub invariant-loop-i : goal.invariant-loop-i
invariant-loop-i l = take l.i l.column ≡ take l.i (byte_places l.sections)
