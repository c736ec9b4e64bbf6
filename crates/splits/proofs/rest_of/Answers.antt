-- `splits::rest_of` meets its contract: the packed number gives its parts back.
-- Assumes nothing.
use Rattle.splits.proofs.Rows.{unpacked}
use borrow.Author.Rules.{rules}
use Rattle.splits.proofs.rest_of.Goals as goal

pub returns : goal.returns
returns c =
    let b = c.bits_of-bits in
    unpacked c.args.s b.result (search rules) (search rules) (search rules) b.ensures.1 (search rules) b.ensures.0
