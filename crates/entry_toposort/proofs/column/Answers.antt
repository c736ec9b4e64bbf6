-- `entry_toposort::column`: a turn fills one more place, and after the last the column is whole.
use Prim.Native.Nat.{◌+◌, ◌*◌}
use mathlib.Core.Path.{sym, ◌∙◌}
use native.Mathlib.Omega.{arith}
use lib.ListN.{length}
use lib.Seq.{take_all}
use Rattle.lists.proofs.Rows.{fill_turn, fill_done}
use Rattle.fields.specs.Fields.{le16}
use Rattle.entry_toposort.proofs.column.Goals as goal

pub loop-i-preserved : goal.loop-i-preserved
loop-i-preserved c =
    fill_turn (λ j. le16 c.args.edges.now (4 * j + c.args.at)) (length c.args.out.now) _ _ _ (omega arith) (omega arith) c.get.ensures c.loop-i.invariant

pub returns : goal.returns
returns c =
    let l = c.loop-i in
    let n = length c.args.out.now in
    sym (take_all n l.out (omega arith)) ∙ fill_done _ n l.i _ (omega arith) l.invariant
