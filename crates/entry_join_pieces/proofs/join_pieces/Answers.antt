-- What was joined, or refused, is settled.
use Rattle.entry_join_pieces.proofs.Laws.{leaves_settled}
use Rattle.entry_join_pieces.proofs.join_pieces.Goals as goal

pub returns : goal.returns
returns c = leaves_settled _ _ c.join_tables-made.ensures c.settle.ensures
