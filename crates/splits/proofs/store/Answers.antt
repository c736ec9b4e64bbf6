-- `splits::store` meets its contract. Invariant: writing the rows that are left from here on writes them all.
-- Assumes nothing.
use mathlib.Core.Path.{sym, ap, ◌∙◌}
use mathlib.Core.List.{List}
use native.Mathlib.Omega.{arith}
use Prim.Native.Nat.{ℕ, ◌+◌, ◌-◌, ◌*◌}
use lib.Seq.{sets}
use Rattle.lists.specs.Rows.{tabulate}
use Rattle.obj.specs.declared.Split.{Split}
use Rattle.splits.specs.Columns.{row_at}
use Rattle.splits.specs.Table.{columns_of}
use Rattle.obj.specs.Bytes.{split_bytes}
use Rattle.splits.specs.Bytes.{table_bytes}
use Rattle.obj.specs.Records.{split_width}
use Rattle.splits.proofs.Bytes.{written_turn, written_all}
use Rattle.splits.proofs.store.Goals as goal

pub loop-i-preserved : goal.loop-i-preserved
loop-i-preserved c =
    let l = c.loop-i in
    let a = c.args in
    let f = row_at (columns_of a.splits.now) in
    let w = c.write.ensures.written ∙ ap (λ (s : Split). sets l.out (split_width * l.i) (split_bytes s)) c.row.ensures in (
      omega arith,
      c.write.auto.out ∙ l.invariant.1,
      ap (λ (b : List ℕ). sets b (split_width * (l.i + 1)) (table_bytes (tabulate f (l.i + 1) (a.splits.now.count - (l.i + 1))))) w
          ∙ written_turn l.out f a.splits.now.count l.i c.loop-i-test.true
          ∙ l.invariant.2,
    )

pub returns : goal.returns
returns c =
    let a = c.args in
    let f = row_at (columns_of a.splits.now) in
    sym (written_all c.loop-i.out f a.splits.now.count c.loop-i.i c.loop-i-test.false) ∙ c.loop-i.invariant.2
