-- `piece_records::count_pieces` meets its contract. Invariant: counting from here on, with n counted, is counting all.
-- Assumes nothing.
use Rattle.piece_records.proofs.Laws.{count_most, count_turn, not_bad_lies, count_bad, count_end}
use Rattle.piece_records.specs.Records.{count_from}
use Rattle.obj.specs.Answers.{meaning}
use Prim.Native.Nat.{◌+◌, ℕ, ◌-◌}
use native.Mathlib.Omega.{arith}
use mathlib.Core.Path.{sym, ap, ◌∙◌}
use Rattle.piece_records.proofs.count_pieces.Goals as goal

pub returns-then-record_bad : goal.returns-then-record_bad
returns-then-record_bad c =
    let l = c.loop-at in
    ap meaning c.refuse.ensures ∙ sym (count_bad _ _ _ _ c.loop-at-test.true (sym c.record_bad.ensures ∙ c.if-record_bad.true)) ∙ l.invariant.2

pub returns-then-n-ge-MOST_PIECES : goal.returns-then-n-ge-MOST_PIECES
returns-then-n-ge-MOST_PIECES c =
    let l = c.loop-at in
    ap meaning c.refuse-then-n-ge-MOST_PIECES.ensures
    ∙ sym (count_most _ _ _ _ c.loop-at-test.true (sym c.record_bad.ensures ∙ c.if-record_bad.false) c.if-n-ge-MOST_PIECES.true)
    ∙ l.invariant.2

pub next_at-at-requires : goal.next_at-at-requires
next_at-at-requires c = let lying = not_bad_lies _ _ (sym c.record_bad.ensures ∙ c.if-record_bad.false) in (lying.head, lying.payload)

pub loop-at-preserved : goal.loop-at-preserved
loop-at-preserved c =
    let l = c.loop-at in
    let b = c.args.b.now in
    let whole = sym c.record_bad.ensures ∙ c.if-record_bad.false in
    let lying = not_bad_lies _ _ whole in (
      omega arith,
      omega arith,
      ap (λ (k : ℕ). count_from (1024 - (l.n + 1)) b k (l.n + 1)) c.next_at-at.ensures
          ∙ count_turn 1024 _ _ _ c.loop-at-test.true whole c.if-n-ge-MOST_PIECES.false
          ∙ l.invariant.2,
    )

pub returns : goal.returns
returns c = sym (count_end _ _ _ _ c.loop-at-test.false) ∙ c.loop-at.invariant.2
