-- `entry_toposort::check_tables`: too many nodes, or what the check of a table of records says of the edges.
use Rattle.entry_toposort.proofs.Laws.{many_nodes, checked}
use Rattle.entry_toposort.proofs.check_tables.Goals as goal

pub returns-then-nodes-gt1024 : goal.returns-then-nodes-gt1024
returns-then-nodes-gt1024 c = rw c.refuse.ensures (λ size. many_nodes _ _ size c.if-nodes-gt1024.true)

pub returns : goal.returns
returns c = checked _ _ c.if-nodes-gt1024.false _ c.table_size.ensures
