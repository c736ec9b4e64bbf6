-- `listing::reading::name_of` meets its contract: the code asks what the definition asks.
-- Assumes nothing.
use Rattle.listing.proofs.Names.{base_name, added_name}
use Rattle.listing.specs.Lent.{columns_of}
use Rattle.listing.proofs.reading.name_of.Goals as goal

pub returns-then-k-tables : goal.returns-then-k-tables
returns-then-k-tables c = let s = c in let a = s.args in base_name (columns_of a.tables.now.base.now) (columns_of a.tables.now.added.now) a.k c.if-k-tables.true (s.requires.base c.if-k-tables.true) c.name_at.ensures

pub returns : goal.returns
returns c = let s = c in let a = s.args in added_name (columns_of a.tables.now.base.now) (columns_of a.tables.now.added.now) a.k c.if-k-tables.false (s.requires.added c.if-k-tables.false) c.name_at-2.ensures
