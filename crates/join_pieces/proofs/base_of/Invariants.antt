-- `join_pieces::base_of` meets its contract. Invariant: the sum is what the sections before section i hold.
-- Assumes nothing.
use mathlib.Core.Path.{◌≡◌}
use Prim.Native.Nat.{◌*◌, ◌≤◌}
use lib.ListN.{take}
use Rattle.join.specs.Join.{held}
use Rattle.stage_tables.specs.StageTables.{stage_sections}
use Rattle.join_pieces.proofs.base_of.Given as goal

abbrev pub invariant-loop-i : goal.invariant-loop-i
invariant-loop-i l = (l.i ≤ l.k) × (l.sum ≡ held (take l.i (stage_sections l.sections))) × (l.sum ≤ 4294967295 * l.i)
