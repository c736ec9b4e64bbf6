-- `join_pieces::base_of` meets its contract. Invariant: the sum is what the sections before section i hold.
-- Assumes nothing.
use native.Mathlib.Omega.{arith}
use mathlib.Core.Path.{sym, ap₂, ◌∙◌}
use Prim.Native.Nat.{ℕ, ◌+◌}
use Rattle.join_pieces.proofs.Laws.{held_turn, held_none}
use Rattle.join_pieces.proofs.base_of.Goals as goal

pub loop-i-init : goal.loop-i-init
loop-i-init c = (omega arith, sym (held_none c.args.sections.now), omega arith)

pub loop-i-preserved : goal.loop-i-preserved
loop-i-preserved c =
    let l = c.loop-i in
    let s = c.args.sections.now in (
      omega arith,
      ap₂ (λ (a b : ℕ). a + b) l.invariant.1 c.held_by.ensures ∙ sym (held_turn s l.i (omega arith)),
      omega arith,
    )
