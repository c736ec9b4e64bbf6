use Rattle.kept_output.proofs.Laws.{size_put, size_short}
use Rattle.kept_output.proofs.put_size.Goals as goal

pub returns-then-size-ge8 : goal.returns-then-size-ge8
returns-then-size-ge8 c = size_put c.args.size.now c.args.value c.if-size-ge8.true c.put.ensures

pub returns-else-size-ge8 : goal.returns-else-size-ge8
returns-else-size-ge8 c = size_short c.args.size.now c.args.value c.if-size-ge8.false
