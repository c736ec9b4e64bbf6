-- `Split::read` meets its contract: the fields of a partial record, with the origin that stands behind them.
use Rattle.obj.specs.Records.{split_at}
use Rattle.obj.proofs.SplitRecord.read.Goals as goal

pub returns : goal.returns
unfolding split_at
returns c = (cc)
