-- `listing::seek::seek_unit` meets its contract: the code asks what the cursor is.
-- Assumes nothing.
use Rattle.listing.proofs.Seeks.{sought_total}
use Rattle.listing.proofs.seek.seek_unit.Goals as goal

pub returns : goal.returns
returns c = sought_total _ _ _ c.if-unit-units.false
