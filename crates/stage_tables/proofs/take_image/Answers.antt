-- `stage_tables::take_image` meets its contract: what is asked of the records at their places is what the definition says of the table.
use Rattle.std.proofs.Common.{rules}
use Rattle.tables.specs.Records.{sections_in, image_places_of, image_fault}
use Rattle.stage_tables.proofs.take_image.Goals as goal

pub returns : goal.returns
returns c = let a = c.args in c.check_table.ensures (λ p. image_fault a.lengths.now (image_places_of a.image_places.now) a.image (sections_in a.b.now p)) (λ t r e q. rw (← e) (search rules))
