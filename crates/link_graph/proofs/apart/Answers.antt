-- `link_graph::apart`: the four tests of `apart`, on the rows at two places.
use Rattle.std.proofs.Common.{arith}
use Rattle.link_graph.proofs.Rows.{apart_by_rows}
use Rattle.link_graph.proofs.apart.Goals as goal

pub returns : goal.returns
returns c = apart_by_rows _ _ _ _ (omega arith) c.row-s.ensures c.row-t.ensures c.is_common.ensures c.is_common-2.ensures c.is_passed-passed.ensures
