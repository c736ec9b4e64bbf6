-- `walk::output::piece_of` meets its contract: each field is the definition's.
use Rattle.walk.specs.Walk.{piece_of}
use Rattle.walk.proofs.output.piece_of.Goals as goal

pub returns : goal.returns
unfolding piece_of
returns c = rw c.name_for.ensures
