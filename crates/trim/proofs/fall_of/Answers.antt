-- `trim::fall_of` meets its contract: the end that is aligned up, if it is lower and the next split's alignment does not refuse.
use mathlib.Core.Path.{sym, ap, ◌∙◌}
use Prim.Native.Nat.{◌-◌}
use Rattle.std.proofs.lemmas.Result.{err_from_is_err_and}
use Rattle.lists.specs.Rows.{tabulate}
use Rattle.lists.proofs.Binds.{after_goes, after-stops}
use Rattle.sections.specs.Image.{image_in}
use Rattle.splits.specs.Columns.{row_at}
use Rattle.splits.specs.Table.{columns_of}
use Rattle.trim.specs.Steps.{asked_meaning}
use Rattle.trim.proofs.Falls.{falls_to, falls_not, falls_backwards}
use Rattle.sections.specs.Sections.{head_in}
use Rattle.trim.proofs.fall_of.Goals as goal

pub returns-in_err-low : goal.returns-in_err-low
returns-in_err-low c =
    let a = c.args in
    let g = image_in a.tables.now.obj in
    let head = head_in a.tables.now.obj in
    let row = row_at (columns_of a.splits.now) in
    let y = a.s in
    let p = err_from_is_err_and c.from_residual.result c.from_residual.ensures.1 in
    rw p.1
    (sym (falls_backwards g head y (tabulate row a.j (a.splits.now.count - a.j)) 11 y.section y.start
    (sym c.aligned_end.ensures ∙ ap (asked_meaning y.section y.start) c.in_err-low.was)))

pub returns-in_err-ask_next : goal.returns-in_err-ask_next
returns-in_err-ask_next c =
    let a = c.args in
    let g = image_in a.tables.now.obj in
    let head = head_in a.tables.now.obj in
    let row = row_at (columns_of a.splits.now) in
    let y = a.s in
    let p = err_from_is_err_and c.from_residual-in_err-ask_next.result c.from_residual-in_err-ask_next.ensures.1 in
    rw p.1
    (sym (falls_to g head y (tabulate row a.j (a.splits.now.count - a.j)) _ (sym c.aligned_end.ensures ∙ ap (asked_meaning y.section y.start) c.in_ok-low.was) c.if-low-s.true
    ∙ after-stops _ _ 11 y.section y.start (sym c.ask_next.ensures ∙ ap (asked_meaning y.section y.start) c.in_err-ask_next.was)))

pub returns-then-low-s : goal.returns-then-low-s
returns-then-low-s c =
    let a = c.args in
    let g = image_in a.tables.now.obj in
    let head = head_in a.tables.now.obj in
    let row = row_at (columns_of a.splits.now) in
    let y = a.s in
    sym (falls_to g head y (tabulate row a.j (a.splits.now.count - a.j)) _ (sym c.aligned_end.ensures ∙ ap (asked_meaning y.section y.start) c.in_ok-low.was) c.if-low-s.true
    ∙ after_goes _ _ (sym c.ask_next.ensures ∙ ap (asked_meaning y.section y.start) c.in_ok-ask_next.was))

pub returns : goal.returns
returns c =
    let a = c.args in
    let g = image_in a.tables.now.obj in
    let head = head_in a.tables.now.obj in
    let row = row_at (columns_of a.splits.now) in
    let y = a.s in
    sym (falls_not g head y (tabulate row a.j (a.splits.now.count - a.j)) _ (sym c.aligned_end.ensures ∙ ap (asked_meaning y.section y.start) c.in_ok-low.was) c.if-low-s.false)
