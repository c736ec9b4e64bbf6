use Rattle.std.proofs.Common.{refl, arith}
use Rattle.lists.specs.Rows.{tabulate}
use Rattle.obj.specs.Records.{stage_places}
use Rattle.tables.proofs.Lookups.{place_more}
use Rattle.tables.proofs.fill_places.Goals as goal

pub loop-i-init : goal.loop-i-init
unfolding stage_places tabulate
loop-i-init c = refl

pub loop-i-preserved : goal.loop-i-preserved
loop-i-preserved c = place_more _ _ _ (omega arith) c.loop-i.invariant
