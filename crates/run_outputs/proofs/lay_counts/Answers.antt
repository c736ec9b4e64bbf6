-- The counts are put into cleared bytes.
use Rattle.std.proofs.Common.{◌∙◌}
use Rattle.outputs.proofs.Laws.{counts_cleared}
use Rattle.run_outputs.specs.Kept.{listed}
use Rattle.run_outputs.proofs.lay_counts.Goals as goal

pub returns : goal.returns
returns c = c.put_counts.ensures ∙ counts_cleared c.args.counts.now (listed c.args.k) c.clear_from.ensures
