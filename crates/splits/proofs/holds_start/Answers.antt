-- `splits::holds_start` meets its contract: the test is the closure's.
-- Assumes nothing.
use Rattle.std.proofs.Common.{rules, ℕ, ◌&&◌, leb, ltb}
use Rattle.splits.proofs.holds_start.Goals as goal

pub returns : goal.returns
returns c = c.any_of_block.ensures (λ (s : ℕ). leb c.args.range.from s && ltb s c.args.range.to) 0 (λ x r q. search rules)
