-- `names::hex::put_hexes` meets its contract. Invariant: writing the digits of the bytes that are left is writing all.
-- Assumes nothing.
use mathlib.Core.Path.{◌≡◌}
use Prim.Native.Nat.{◌+◌, ◌*◌}
use lib.ListN.{drop}
use lib.Seq.{sets}
use Rattle.names.specs.GapName.{hexes}
use Rattle.names.proofs.hex.put_hexes.Given as goal

abbrev pub invariant-loop-i : goal.invariant-loop-i
invariant-loop-i l = (sets l.out (l.at + 2 * l.i) (hexes (drop l.i l.bytes)) ≡ sets l.initial.out l.at (hexes l.bytes))
