-- `mend::mend_row` meets its contract: a new end is set and its line put, else both stay as they are. Assumes nothing.
use mathlib.Core.Path.{refl, sym, ap, ap₂, ◌∙◌}
use Rattle.std.specs.Prelude.{ℕ, ◌+◌, ◌-◌}
use Rattle.lists.specs.Rows.{tabulate}
use Rattle.splits.specs.Columns.{Columns, row_at, row_of}
use Rattle.splits.specs.Table.{ends_columns}
use Rattle.mend.specs.Mend.{replacement}
use Rattle.mend.proofs.Turns.{turned_wrong, turned_right}
use Rattle.mend.proofs.mend_row.Goals as goal

pub returns-in-Some-clause-turned : goal.returns-in-Some-clause-turned
returns-in-Some-clause-turned c =
    let a = c.args in
    let e = c.columns-splits.ensures in
    let decision = λ (x : Columns) (n : ℕ). replacement a.section_ends.now (row_at x a.i) (tabulate (row_at x) (a.i + 1) (n - (a.i + 1))) in
    turned_wrong _ _ _ _ _ _ _ (c.row-s.ensures ∙ ap (λ (x : Columns). row_at x a.i) e.columns) (sym c.in-Some.is ∙ c.decide.ensures ∙ ap₂ decision e.columns e.count) c.put_line.ensures

pub returns-in-None-clause-turned : goal.returns-in-None-clause-turned
unfolding row_of
returns-in-None-clause-turned c =
    let a = c.args in
    let t = a.table.now in
    let f = row_at (ends_columns t) in
    let e = c.columns-splits.ensures in
    let decision = λ (x : Columns) (n : ℕ). replacement a.section_ends.now (row_at x a.i) (tabulate (row_at x) (a.i + 1) (n - (a.i + 1))) in
    turned_right a.section_ends.now (f a.i) (tabulate f (a.i + 1) (t.count - (a.i + 1))) a.i t.ends.now (sym c.in-None.is ∙ c.decide.ensures ∙ ap₂ decision e.columns e.count) refl c.requires.1
