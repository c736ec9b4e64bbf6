-- `listing::next_line` meets its contract. The cursor moves to the next record, whose line is the next of the listing.
-- Assumes nothing.
use Rattle.listing.proofs.Nexts.{next_sought}
use Rattle.listing.proofs.next_line.Goals as goal

pub line_at-requires : goal.line_at-requires
line_at-requires c = (c.seek.ensures.valid, c.seek.ensures.ready, c.requires.1)

pub returns : goal.returns
returns c = next_sought c.args.tables.now.readable c.seek.ensures _ _ _ c.line_at.ensures
