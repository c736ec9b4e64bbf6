-- `piece_sweep::pass` meets its contract. Invariant: what is left of the sweep, with the farthest of the pieces passed, is the whole.
-- Assumes nothing.
use mathlib.Core.Path.{◌≡◌}
use mathlib.Core.List.{map}
use lib.ListN.{drop}
use Rattle.piece_records.specs.Records.{part_at, Lying}
use Rattle.piece_order.specs.Order.{part_in}
use Rattle.piece_sweep.specs.Sweep.{sweep_from, sweep}
use Rattle.piece_sweep.proofs.pass.Given as goal

abbrev pub invariant-loop-i : goal.invariant-loop-i
invariant-loop-i l = Lying l.b l.far × (sweep_from (part_at l.b l.far) (map (part_in l.b l.starts) (drop l.i-index l.later)) ≡ sweep (map (part_in l.b l.starts) l.order))
