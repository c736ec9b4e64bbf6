-- `stage_tables::take_sections` meets its contract: what is asked of the records at their places is what the definition says of the table.
use Rattle.std.proofs.Common.{rules}
use Rattle.tables.specs.Records.{sections_in, section_fault}
use Rattle.stage_tables.proofs.take_sections.Goals as goal

pub returns : goal.returns
returns c = let a = c.args in c.check_table.ensures (λ p. section_fault a.lengths.now (sections_in a.b.now p)) (λ t r e q. rw (← e) (search rules))
