-- `walk::entries::is_entered` meets its contract: as many entries are chained as are made.
use Rattle.walk.proofs.entries.is_entered.Goals as goal

pub has_symbol-requires : goal.has_symbol-requires
has_symbol-requires c = (c.requires.0, (c.args.tables.now.made.symbols, c.requires.1))

pub returns : goal.returns
returns c = c.has_symbol.ensures c.args.tables.now.made.symbols c.requires.1
