-- `splits::alignment_of` meets its contract: a shift by e is 2 ^ e, which fits up to 2 ^ 16.
-- Assumes nothing.
use mathlib.Core.Path.{sym, ap, ◌∙◌}
use Rattle.splits.specs.Columns.{alignment_of}
use Rattle.splits.proofs.Alignment.{alignment_none, alignment_past, alignment_shifted}
use borrow.Author.Rules.{rules}
use Rattle.splits.proofs.alignment_of.Goals as goal

pub returns-then-bits-eq0 : goal.returns-then-bits-eq0
returns-then-bits-eq0 c = sym (ap alignment_of c.if-bits-eq0.true ∙ alignment_none)

pub returns-then-bits-gt17 : goal.returns-then-bits-gt17
returns-then-bits-gt17 c = sym (alignment_past c.args.bits c.if-bits-gt17.true)

pub returns : goal.returns
returns c = alignment_shifted c.args.bits (search rules) (search rules)
