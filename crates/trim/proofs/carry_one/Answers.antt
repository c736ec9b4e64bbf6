-- `trim::carry_one` meets its contract: no fall, 54, or the fall set in the last row at the start of row k.
use mathlib.Core.Path.{sym, ap, ◌∙◌}
use Prim.Native.Nat.{◌-◌, ◌<◌}
use native.Mathlib.Omega.{arith}
use Rattle.lists.specs.Outcome.{accepted}
use Rattle.obj.specs.Answers.{Answer}
use Rattle.splits.specs.Columns.{Columns, row_at}
use Rattle.splits.specs.Table.{ends_columns, ends_rows}
use Rattle.splits.proofs.Rows.{row_end}
use Rattle.trim.specs.Steps.{seen}
use Rattle.trim.proofs.Carry.{last_is, carry_not, carry_refused, carry_set}
use Rattle.trim.proofs.carry_one.Goals as goal

pub returns-then-end-eq0-clause-rows : goal.returns-then-end-eq0-clause-rows
returns-then-end-eq0-clause-rows c = carry_not _ _ _ c.if-end-eq0.true

pub returns-then-old-s-clause-rows : goal.returns-then-old-s-clause-rows
returns-then-old-s-clause-rows c =
    let a = c.args in
    let n = a.table.now.count in
    let row = row_at (ends_columns a.table.now) in
    let e = c.columns-splits.ensures in
    let s = c.row-s.ensures ∙ ap (λ (x : Columns). row_at x a.k) e.columns in
    let last = rw (e.columns, e.count) at c.past_start-last.ensures in
    let inside : c.past_start-last.result - 1 < n = omega (arith, last.past, last.small) in
    let place = last_is row n a.k c.requires _ _ _ s last.is (omega (arith, last.past)) in
    ap (λ (r : Answer). seen r (ends_rows a.table.now)) c.refuse.ensures
    ∙ sym (carry_refused row n a.k c.requires a.end _ c.if-end-eq0.false place inside _ _ s (sym (row_end _ _ _ _)) c.if-old-s.true)

pub returns-clause-rows : goal.returns-clause-rows
returns-clause-rows c =
    let a = c.args in
    let n = a.table.now.count in
    let row = row_at (ends_columns a.table.now) in
    let e = c.columns-splits.ensures in
    let s = c.row-s.ensures ∙ ap (λ (x : Columns). row_at x a.k) e.columns in
    let last = rw (e.columns, e.count) at c.past_start-last.ensures in
    let inside : c.past_start-last.result - 1 < n = omega (arith, last.past, last.small) in
    let place = last_is row n a.k c.requires _ _ _ s last.is (omega (arith, last.past)) in
    ap accepted c.set_end.ensures.rows
    ∙ sym (carry_set row n a.k c.requires a.end _ c.if-end-eq0.false place inside _ _ s (sym (row_end _ _ _ _)) c.if-old-s.false)
