-- What a turn of the loop leaves: one more split is marked. Assumes nothing.
use Rattle.std.proofs.Common.{arith}
use Rattle.std.proofs.lemmas.Grind.{common_steps}
use Rattle.std.proofs.lemmas.List.Edits.{map_over_more}
use Rattle.common.specs.Common.{marked}
use Rattle.common.proofs.mark_common_splits.Goals as goal

pub loop-s-preserved : goal.loop-s-preserved
loop-s-preserved c = grind (arith, common_steps, map_over_more (marked c.args.from.section c.args.from.address))
