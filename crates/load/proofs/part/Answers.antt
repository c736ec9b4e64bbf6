-- `base + n - base` places are n places.
use Rattle.load.proofs.Parts.{part-lent}
use Rattle.load.proofs.part.Goals as goal

pub returns : goal.returns
returns c = part-lent c.args.base c.args.n c.args.places.now
