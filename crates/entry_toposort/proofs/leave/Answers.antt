-- The count is put into cleared bytes.
use Rattle.std.proofs.Common.{[], ◌∷◌, ◌∙◌}
use Rattle.outputs.proofs.Laws.{counts_cleared}
use Rattle.entry_toposort.proofs.leave.Goals as goal

pub returns : goal.returns
returns c = (c.clear_from.ensures, c.put_counts.ensures ∙ counts_cleared c.args.counts.now (c.args.kept ∷ []) c.clear_from-2.ensures)
