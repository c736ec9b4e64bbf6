-- `load::find_name` meets its contract: the names' parts of the columns are lent to `find`, and mean the names that are loaded.
-- Assumes nothing.
use Rattle.load.proofs.Deciding.{lent-named, lent_indexed, lent_found}
use Rattle.load.proofs.find_name.Goals as goal

pub find-requires : goal.find-requires
find-requires c = let ready = c.args.payload.now.before.readable in (lent-named ready, lent_indexed ready)

pub returns : goal.returns
returns c = let p = c.args.payload.now in lent_found p.before.readable p.at p.len _ c.find.ensures
