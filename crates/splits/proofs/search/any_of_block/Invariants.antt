-- `splits::any_of_block` meets its contract. Invariant: `any`, or the answer of the numbers that are left, is the answer of the block.
-- Assumes nothing.
use Rattle.std.proofs.Common.{◌≡◌, ℕ, Bool, get_or}
use Rattle.splits.proofs.Blocks.{Left}
use Rattle.splits.proofs.search.any_of_block.Given as goal

abbrev pub invariant-loop-x : goal.invariant-loop-x
invariant-loop-x g l =
    goal.F-IsAlwaysCallable g l.passes
    × ((p : g.row.T.Denot → Bool) (d : g.row.T.Denot) → ((x : g.row.T.Denot) (r : _) → goal.F-post g l.passes x r → r ≡ p x) → Left p (λ (j : ℕ). get_or l.column j d) l.at 32 l.any l.x-index)
