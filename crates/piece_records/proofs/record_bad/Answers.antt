-- `piece_records::record_bad` meets its contract: the frame lies in the bytes, then the kind and the least payload.
-- Assumes nothing.
use mathlib.Core.Bool.{◌||◌, not}
use lib.Dec.{eqb, ltb}
use native.Mathlib.Omega.{arith}
use Rattle.lists.specs.Rows.{any_of, any_from}
use mathlib.Core.Path.{sym, ap₂, ◌∙◌}
use Prim.Native.Nat.{ℕ}
use Rattle.frames.proofs.Laws.{not_cut}
use Rattle.piece_records.proofs.Laws.{cut_bad, whole_bad}
use Rattle.piece_records.proofs.record_bad.Goals as goal

pub returns-then-is_cut : goal.returns-then-is_cut
returns-then-is_cut c = cut_bad _ _ (sym c.is_cut.ensures ∙ c.if-is_cut.true)

pub get-requires : goal.get-requires
get-requires c = let w = not_cut _ _ (sym c.is_cut.ensures ∙ c.if-is_cut.false) in omega (arith, w.0)

pub get-requires-2 : goal.get-requires-2
get-requires-2 c = let w = not_cut _ _ (sym c.is_cut.ensures ∙ c.if-is_cut.false) in omega (arith, w.0)

pub returns : goal.returns
unfolding any_of any_from
returns c =
    ap₂ (λ (k n : ℕ). not (eqb k 7) || ltb n 6) c.get.ensures c.get-2.ensures
    ∙ whole_bad _ _ (sym c.is_cut.ensures ∙ c.if-is_cut.false)
