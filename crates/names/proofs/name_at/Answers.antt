-- The part from the place on, so long as the length says, is the name.
use Rattle.std.proofs.Common.{get_or, refl}
use Rattle.names.proofs.Laws.{part_is}
use Rattle.names.specs.Names.{name_at}
use Rattle.names.proofs.name_at.Goals as goal

pub returns : goal.returns
unfolding name_at
returns c = let a = c.args in part_is a.names.now.bytes.now {a = get_or a.names.now.places.now a.k 0} (get_or a.names.now.places.now a.k 0) (get_or a.names.now.lengths.now a.k 0) refl c.from.ensures
