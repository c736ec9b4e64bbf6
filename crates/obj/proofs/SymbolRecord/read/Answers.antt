-- `Symbol::read` meets its contract: each field is read at the offset that the definition gives it.
use Rattle.obj.specs.Records.{symbol_at}
use Rattle.obj.proofs.SymbolRecord.read.Goals as goal

pub returns : goal.returns
unfolding symbol_at
returns c = (cc)
