-- The rows are put, and their number is stored into the cleared counts.
use mathlib.Core.Path.{sym, ap, ◌∙◌}
use mathlib.Core.List.{[], ◌∷◌}
use Prim.Native.Nat.{ℕ}
use lib.ListN.{length}
use Rattle.lists.proofs.Rows.{length-tabulate}
use Rattle.outputs.specs.Outputs.{counts_of}
use Rattle.splits.specs.Columns.{row_at}
use Rattle.splits.specs.Table.{columns_of}
use Rattle.outputs.proofs.Laws.{counts_cleared}
use Rattle.stage_splits.proofs.give_splits.Goals as goal

pub returns-clause-laid : goal.returns-clause-laid
returns-clause-laid c =
    let a = c.args in
    let k = length-tabulate (row_at (columns_of a.splits.now)) 0 a.splits.now.count in
    record {
      splits = c.put_splits.ensures;
      counted =
          c.put_counts.ensures
          ∙ counts_cleared a.output.now.counts.now (a.splits.now.count ∷ []) c.clear_from.ensures
          ∙ ap (λ (n : ℕ). counts_of (length a.output.now.counts.now) (n ∷ [])) (sym k);
    }
