use Rattle.std.proofs.Common.{◌∙◌}
use Rattle.names.proofs.Laws.{same_pointwise}
use Rattle.names.proofs.same.Goals as goal

pub returns : goal.returns
returns c = c.eq.ensures ∙ same_pointwise c.args.x.now c.args.y.now
