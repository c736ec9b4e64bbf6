-- `join_pieces::head_of` meets its contract.
-- Assumes nothing.
use mathlib.Core.Path.{sym, ◌∙◌}
use Rattle.join_pieces.proofs.Laws.{head_there}
use Rattle.join_pieces.proofs.head_of.Goals as goal

pub returns : goal.returns
returns c = c.record_in.ensures ∙ sym (head_there c.args.sections.now c.args.k c.requires)
