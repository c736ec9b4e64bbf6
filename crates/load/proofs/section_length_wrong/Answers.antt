-- `load::section_length_wrong` meets its contract: the definition's tests in its order.
-- Assumes nothing.
use mathlib.Core.Path.{sym, ◌∙◌}
use borrow.Author.Tests.{eqb-true, eqb-false}
use Rattle.load.proofs.Deciding.{length_short, length_bare, length-full}
use Rattle.load.proofs.section_length_wrong.Goals as goal

pub returns-then-payload-lt15 : goal.returns-then-payload-lt15
returns-then-payload-lt15 c = length_short _ _ _ c.if-payload-lt15.true

pub returns-then-is_bss : goal.returns-then-is_bss
returns-then-is_bss c = length_bare _ _ _ c.if-payload-lt15.false c.read-s.ensures (eqb-true _ _ (sym c.is_bss.ensures ∙ c.if-is_bss.true))

pub returns : goal.returns
returns c = length-full _ _ _ c.if-payload-lt15.false c.read-s.ensures (eqb-false _ _ (sym c.is_bss.ensures ∙ c.if-is_bss.false))
