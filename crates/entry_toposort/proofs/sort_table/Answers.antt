-- `entry_toposort::sort_table`: the two columns are those of the edge table, and the sort of the columns does the rest.
use Prim.Native.Nat.{ℕ}
use native.Mathlib.Omega.{arith}
use lib.ListN.{length-take}
use Rattle.entry_toposort.proofs.Laws.{graph_made, ends_of}
use Rattle.entry_toposort.proofs.sort_table.Goals as goal

pub returns : goal.returns
returns c =
    ends_of _
    (graph_made c.args.n c.args.edges.now (omega (arith, length-take {A = ℕ})) (omega (arith, length-take {A = ℕ})) c.column.ensures c.column-2.ensures)
    c.sort_columns.ensures
