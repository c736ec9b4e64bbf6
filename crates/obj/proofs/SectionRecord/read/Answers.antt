-- `Section::read` meets its contract: each field is read at the offset that the definition gives it.
use Rattle.obj.specs.Records.{section_at}
use Rattle.obj.proofs.SectionRecord.read.Goals as goal

pub returns : goal.returns
unfolding section_at
returns c = (cc)
