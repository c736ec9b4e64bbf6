-- `tables::image_place` meets its contract: the number at the place, or 0 past the last whole one.
-- Assumes nothing.
use Rattle.tables.proofs.Faults.{image_place_here, image_place_past}
use Rattle.tables.proofs.image_place.Goals as goal

pub returns-then-k-places : goal.returns-then-k-places
returns-then-k-places c = image_place_here c.args.places.now _ c.if-k-places.true c.get.ensures

pub returns : goal.returns
returns c = image_place_past c.args.places.now _ c.if-k-places.false
