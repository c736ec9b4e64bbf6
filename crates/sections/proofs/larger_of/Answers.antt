-- `sections::larger_of` meets its contract: the larger is the symbol's exactly if it exceeds the default.
use Rattle.sections.proofs.Larger.{larger_symbol, larger_default}
use Rattle.sections.proofs.larger_of.Goals as goal

pub returns-then-least-highest : goal.returns-then-least-highest
returns-then-least-highest c = larger_symbol _ _ c.if-least-highest.true

pub returns : goal.returns
returns c = larger_default _ _ c.if-least-highest.false
