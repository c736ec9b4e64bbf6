-- `write_srecords::lines_room` meets its contract. Invariant: the sum and what the sections that are left take is what all take.
-- Assumes nothing.
use mathlib.Core.Path.{◌≡◌}
use Prim.Native.Nat.{◌+◌, ◌*◌, ◌/◌, ◌≤◌}
use lib.ListN.{length, drop}
use Rattle.stage_tables.specs.StageTables.{stage_sections}
use Rattle.write_srecords.specs.Along.{room_along}
use Rattle.write_srecords.proofs.lines_room.Given as goal

abbrev pub invariant-loop-k : goal.invariant-loop-k
invariant-loop-k l = (l.k ≤ length l.sections / 15) × (l.sum + room_along (drop l.k (stage_sections l.sections)) ≡ room_along (stage_sections l.sections) + 15) × (l.sum ≤ 15 + 17179869184 * l.k)
