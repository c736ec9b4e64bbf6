-- `stage_tables::take_symbols` meets its contract: what is asked of the records at their places is what the definition says of the table.
use Rattle.std.proofs.Common.{rules}
use Rattle.tables.specs.Records.{sections_in, symbols_in, symbol_fault}
use Rattle.stage_tables.proofs.take_symbols.Goals as goal

pub returns : goal.returns
returns c = let a = c.args in c.check_table.ensures (λ p. symbol_fault a.names (sections_in a.heads.now.bytes.now a.heads.now.places.now) (symbols_in a.b.now p)) (λ t r e q. rw (← e) (search rules))
