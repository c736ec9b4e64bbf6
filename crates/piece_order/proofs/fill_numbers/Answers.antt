-- `piece_order::fill_numbers` meets its contract. Invariant: the first i are the first i numbers.
-- Assumes nothing.
use mathlib.Core.Path.{sym, ◌∙◌}
use native.Mathlib.Omega.{arith}
use lib.ListN.{length}
use lib.Seq.{take_all}
use Rattle.lists.proofs.Keep.{take_more}
use Rattle.lists.proofs.Rows.{length-tabulate, get_d_tabulate}
use Rattle.symbol_order.specs.Order.{numbers}
use Rattle.piece_order.proofs.fill_numbers.Goals as goal

pub loop-i-preserved : goal.loop-i-preserved
loop-i-preserved c =
    let l = c.loop-i in
    let n = length c.args.order.now in
    take_more l.i l.order (numbers n) l.i 0 (omega arith) (let k = length-tabulate (λ x. x) 0 n in omega arith) (let z = get_d_tabulate (λ x. x) 0 n l.i 0 (omega arith) in omega arith) l.invariant

pub returns : goal.returns
returns c =
    let l = c.loop-i in
    let n = length c.args.order.now in
    sym (take_all l.i l.order (omega arith)) ∙ l.invariant ∙ take_all l.i (numbers n) (let k = length-tabulate (λ x. x) 0 n in omega arith)
