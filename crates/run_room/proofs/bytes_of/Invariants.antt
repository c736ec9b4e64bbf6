-- `run_room::bytes_of` meets its contract. Invariant: the bytes so far and the sum of what is left are the sum of all.
-- Assumes nothing.
use Prim.Native.Nat.{◌+◌, ◌*◌, ◌≤◌}
use mathlib.Core.Path.{◌≡◌}
use lib.ListN.{drop}
use Rattle.run_room.specs.Room.{sum}
use Rattle.run_room.proofs.bytes_of.Given as goal

abbrev pub invariant-loop-length : goal.invariant-loop-length
invariant-loop-length l = (l.bytes + sum (drop l.length-index l.lengths) ≡ sum l.lengths) × (l.bytes ≤ 255 * l.length-index)
