-- The rows are stored at the front, and each count where it fits.
use Rattle.mend_outputs.proofs.Laws.{stores_rows}
use Rattle.mend_outputs.proofs.give_mended.Goals as goal

pub returns-clause-stores : goal.returns-clause-stores
returns-clause-stores c = stores_rows c.in_ok-size.was c.store.ensures c.put_counts.ensures
