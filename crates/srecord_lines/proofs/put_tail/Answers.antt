-- `srecord_lines::put_tail` meets its contract.
-- Assumes nothing.
use native.Mathlib.Omega.{arith}
use mathlib.Core.Path.{refl}
use Prim.Native.Nat.{◌+◌}
use mathlib.Core.List.{◌∷◌, []}
use Rattle.lists.proofs.Stores.{sets_then}
use Rattle.names.specs.GapName.{hexes}
use Rattle.srecord_lines.specs.Leaves.{line_tail}
use Rattle.srecord_lines.proofs.put_tail.Goals as goal

pub returns : goal.returns
unfolding line_tail hexes
returns c =
    let a = c.args in
    sets_then a.out.now a.at (hexes (a.check ∷ [])) (a.at + 2) (10 ∷ []) refl c.put_hexes.ensures (omega arith)
