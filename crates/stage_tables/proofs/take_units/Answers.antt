-- `stage_tables::take_units` meets its contract: what is asked of the records at their places is what the definition says of the table.
use Rattle.std.proofs.Common.{rules}
use Rattle.tables.specs.Records.{units_in, unit_fault}
use Rattle.stage_tables.proofs.take_units.Goals as goal

pub returns : goal.returns
returns c = let a = c.args in c.check_table.ensures (λ p. unit_fault a.lengths.now (units_in a.b.now p)) (λ t r e q. rw (← e) (search rules))
