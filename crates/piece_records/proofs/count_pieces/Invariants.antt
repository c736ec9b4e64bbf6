-- `piece_records::count_pieces` meets its contract. Invariant: counting from here on, with n counted, is counting all.
-- Assumes nothing.
use Rattle.piece_records.specs.Records.{count_from}
use Prim.Native.Nat.{◌-◌, ◌≤◌}
use mathlib.Core.Path.{◌≡◌}
use lib.ListN.{length}
use Rattle.piece_records.proofs.count_pieces.Given as goal

abbrev pub invariant-loop-at : goal.invariant-loop-at
invariant-loop-at l = (l.at ≤ length l.b) × (l.n ≤ 1024) × (count_from (1024 - l.n) l.b l.at l.n ≡ count_from 1024 l.b 0 0)

abbrev pub decreases-loop-at : goal.decreases-loop-at
decreases-loop-at l = length l.b - l.at
