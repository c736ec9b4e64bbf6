-- `piece_order::fill_starts` meets its contract. Invariant: the starts that are written, and after them those that are left, are all.
-- Assumes nothing.
use Prim.Native.Nat.{ℕ}
use mathlib.Core.Path.{sym, ap, ◌∙◌}
use mathlib.Core.List.{List, ◌++◌, append-nil}
use native.Mathlib.Omega.{arith}
use lib.ListN.{length, take}
use lib.Seq.{take_all}
use Rattle.lists.proofs.Keep.{keep_more}
use Rattle.piece_records.proofs.Laws.{whole_turn}
use Rattle.piece_order.proofs.Laws.{starts_turn, starts_end}
use Rattle.piece_order.proofs.fill_starts.Goals as goal

pub next_at-at-requires : goal.next_at-at-requires
next_at-at-requires c = let lying = (whole_turn _ _ _ _ c.loop-start-test.true c.loop-start.invariant.0).0 in (lying.head, lying.payload)

pub loop-start-preserved : goal.loop-start-preserved
loop-start-preserved c =
    let l = c.loop-start in
    let i = l.start-index in
    let n = length c.args.starts.now in
    let w = whole_turn _ _ _ _ c.loop-start-test.true l.invariant.0 in
    rw c.next_at-at.ensures (
      w.1,
      keep_more i l.starts l.at _ (omega arith)
          ∙ ap (λ (r : List ℕ). take i l.starts ++ r) (sym (starts_turn n i c.args.b.now l.at c.loop-start-test.true))
          ∙ l.invariant.1,
    )

pub returns : goal.returns
returns c =
    let l = c.loop-start in
    let i = l.start-index in
    let n = length c.args.starts.now in
    sym (take_all i l.starts (omega arith))
    ∙ sym (ap (λ (r : List ℕ). take i l.starts ++ r) (starts_end n i c.args.b.now l.at c.loop-start-test.false) ∙ append-nil (take i l.starts))
    ∙ l.invariant.1
