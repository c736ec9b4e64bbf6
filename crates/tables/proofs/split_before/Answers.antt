-- `tables::split_before` meets its contract: the record at the place before, or for the first one the empty one.
-- Assumes nothing.
use Prim.Native.Nat.{◌-◌}
use Rattle.std.proofs.Common.{rules}
use native.Mathlib.Omega.{arith}
use borrow.Author.Tests.{eq-eqb, ne_eqb}
use Rattle.lists.proofs.Tests.{by_true, by_false}
use Rattle.obj.specs.Records.{split_at}
use Rattle.obj.specs.Nothing.{no_split}
use Rattle.tables.specs.Records.{split_before}
use Rattle.tables.proofs.Lookups.{found}
use Rattle.tables.proofs.split_before.Goals as goal

pub returns-then-k-ne0 : goal.returns-then-k-ne0
unfolding split_before
returns-then-k-ne0 c =
    let s = c in
    by_false _ _ (ne_eqb _ _ c.if-k-ne0.true)
    (found (split_at s.args.table.now.bytes.now) s.args.table.now.places.now (s.args.k - 1) no_split (omega arith) c.record.ensures)

pub returns : goal.returns
unfolding split_before
returns c = by_true _ _ (eq-eqb _ _ c.if-k-ne0.false) (search (rules, c.default.ensures))
