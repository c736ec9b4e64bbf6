-- `obj::read_partial` meets its contract: each field is read at the offset that the definition gives it.
use Rattle.obj.specs.Records.{partial_at}
use Rattle.obj.proofs.read_partial.Goals as goal

pub returns : goal.returns
unfolding partial_at
returns c = (cc)
