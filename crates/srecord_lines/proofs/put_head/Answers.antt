-- `srecord_lines::put_head` meets its contract. The type and the count are followed by the address, its highest byte first.
use native.Mathlib.Omega.{arith}
use mathlib.Core.Path.{ap, ◌∙◌}
use Prim.Native.Nat.{ℕ, ◌+◌}
use mathlib.Core.List.{◌∷◌, []}
use lib.ListN.{set}
use lib.Seq.{sets}
use native.Mathlib.Numerals.{add-one}
use Rattle.std.specs.Int.{w32, to_be_bytes}
use Rattle.lists.proofs.Stores.{sets_then}
use Rattle.names.specs.GapName.{hexes}
use Rattle.srecord_lines.proofs.Laws.{head_is}
use Rattle.srecord_lines.proofs.put_head.Goals as goal

pub returns : goal.returns
unfolding hexes
returns c =
    let a = c.args in
    let counted = sets_then a.out.now a.at (83 ∷ a.kind ∷ []) (a.at + 2) (hexes (a.count ∷ [])) c.put_hexes.ensures (ap (λ (k : ℕ). set (set a.out.now a.at 83) k a.kind) (add-one a.at)) (omega arith) in
    sets_then a.out.now a.at (83 ∷ a.kind ∷ hexes (a.count ∷ [])) (a.at + 4) (hexes (to_be_bytes w32 a.address)) (rw c.to_be_bytes.ensures at c.put_hexes-2.ensures) counted (omega arith)
    ∙ ap (sets a.out.now a.at) (head_is a.kind a.count a.address)
