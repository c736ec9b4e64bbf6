-- `join_pieces::any_piece`: the test says of each piece what p says, so a turn finds one, or goes on to the pieces behind.
use Rattle.join_pieces.proofs.Passing.{pass_start, pass_among, pass_turn, left_start, left_hit, left_miss, left_ended}
use Rattle.join_pieces.proofs.any_piece.Goals as goal

pub loop-i-init : goal.loop-i-init
loop-i-init g c = (pass_start _ _ c.requires.whole, λ p h. left_start p _ _)

pub test-requires : goal.test-requires
test-requires g c = c.requires.asked _ (pass_among _ _ _ _ c.loop-i-test.true c.loop-i.invariant.0)

pub next_at-at-requires : goal.next_at-at-requires
next_at-at-requires g c = let lying = (pass_among _ _ _ _ c.loop-i-test.true c.loop-i.invariant.0).lying in (lying.head, lying.payload)

pub returns-then-test : goal.returns-then-test
returns-then-test g c = λ p h.
    let i = c.loop-i.invariant in
    left_hit p _ _ _ _ (i.1 p h) c.loop-i-test.true c.test.result c.if-test.true (h _ _ (pass_among _ _ _ _ c.loop-i-test.true i.0) c.test.ensures)

pub loop-i-preserved : goal.loop-i-preserved
loop-i-preserved g c =
    let i = c.loop-i.invariant in (
      pass_turn _ _ _ _ c.loop-i-test.true i.0 _ c.next_at-at.ensures,
      λ p h.
          left_miss p _ _ _ _ (i.1 p h) c.loop-i-test.true c.test.result c.if-test.false (h _ _ (pass_among _ _ _ _ c.loop-i-test.true i.0) c.test.ensures) _ c.next_at-at.ensures,
    )

pub returns : goal.returns
returns g c = λ p h. left_ended p _ _ _ _ (c.loop-i.invariant.1 p h) c.loop-i-test.false
