-- `splits::holds_unit` meets its contract: the test is the closure's.
-- Assumes nothing.
use Rattle.std.proofs.Common.{rules, ℕ, eqb}
use Rattle.splits.proofs.holds_unit.Goals as goal

pub returns : goal.returns
returns c = c.any_of_block.ensures (λ (u : ℕ). eqb u c.args.unit) 0 (λ x r q. search rules)
