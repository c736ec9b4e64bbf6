-- `link_graph::is_first`: the first row of all is the first of its section, and of any other the sections of two rows say it.
use Rattle.std.proofs.Common.{sym, arith}
use Rattle.link_graph.proofs.Rows.{first_of_all, first_by_rows}
use Rattle.link_graph.proofs.is_first.Goals as goal

pub returns-then-i-eq0 : goal.returns-then-i-eq0
returns-then-i-eq0 c = sym (first_of_all _ _ c.if-i-eq0.true)

pub returns : goal.returns
returns c = first_by_rows _ _ _ (omega arith) c.if-i-eq0.false c.row-before.ensures c.row-s.ensures
