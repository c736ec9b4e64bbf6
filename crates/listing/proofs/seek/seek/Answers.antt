-- `listing::seek::seek` meets its contract: an arm for each kind of cursor.
-- Assumes nothing.
use Rattle.listing.specs.Lent.{listed_pieces, listed_symbols, listed_relocs}
use Rattle.listing.proofs.seek.seek.Goals as goal

pub returns-in-Units : goal.returns-in-Units
returns-in-Units c = let a = c.args in rw c.in-Units.is (c.seek_unit.ensures (listed_pieces a.lists.now) (listed_symbols a.lists.now) (listed_relocs a.lists.now))

pub returns-in-Relocs : goal.returns-in-Relocs
returns-in-Relocs c = let a = c.args in rw c.in-Relocs.is (c.seek_reloc.ensures (listed_symbols a.lists.now))
