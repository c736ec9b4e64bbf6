-- `obj::partial_at` meets its contract: the record at place k, with the origin that its number and flags give.
use Rattle.obj.specs.Records.{partial_numbered}
use Rattle.obj.proofs.partial_at.Goals as goal

pub returns : goal.returns
unfolding partial_numbered
returns c = (cc)
