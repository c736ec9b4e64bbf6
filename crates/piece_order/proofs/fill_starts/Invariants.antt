-- `piece_order::fill_starts` meets its contract. Invariant: the starts that are written, and after them those that are left, are all.
-- Assumes nothing.
use Prim.Native.Nat.{◌-◌}
use mathlib.Core.Path.{◌≡◌}
use mathlib.Core.List.{◌++◌}
use lib.ListN.{length, take}
use Rattle.piece_records.specs.Records.{Whole}
use Rattle.piece_order.specs.Order.{starts_at}
use Rattle.piece_order.proofs.fill_starts.Given as goal

abbrev pub invariant-loop-start : goal.invariant-loop-start
invariant-loop-start l =
    Whole (length l.initial.starts - l.start-index) l.b l.at
    × (take l.start-index l.starts ++ starts_at (length l.initial.starts - l.start-index) l.b l.at ≡ starts_at (length l.initial.starts) l.b 0)
