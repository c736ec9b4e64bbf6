-- `lines::Text::put_shown` meets its contract: the code asks what the definition asks.
-- Assumes nothing.
use mathlib.Core.Path.{sym, ◌∙◌}
use borrow.Author.Tests.{eqb-true, eqb-false}
use Rattle.names.specs.Fixed.{codes}
use Rattle.lines.proofs.Puts.{shown_empty, shown_name}
use Rattle.lines.proofs.Text.put_shown.Goals as goal

pub returns-then-is_empty : goal.returns-then-is_empty
unfolding codes
returns-then-is_empty c = rw (shown_empty c.args.name.now (eqb-true _ _ (sym c.is_empty.ensures ∙ c.if-is_empty.true))) c.put_field.ensures

pub returns : goal.returns
returns c = rw (shown_name c.args.name.now (eqb-false _ _ (sym c.is_empty.ensures ∙ c.if-is_empty.false))) c.put_field-2.ensures
