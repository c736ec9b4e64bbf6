-- `trim::ask_next` meets its contract: no next split, one of another section, or one whose alignment is asked.
use mathlib.Core.Path.{sym, ap, ◌∙◌}
use Prim.Native.Nat.{ℕ}
use Rattle.std.proofs.lemmas.Result.{err_from_is_err_and}
use Rattle.lists.specs.Outcome.{refused, ◌>>=◌}
use Rattle.sections.specs.Image.{image_in}
use Rattle.sections.specs.Alignment.{alignment_meaning}
use Rattle.splits.specs.Columns.{row_at}
use Rattle.splits.specs.Table.{columns_of}
use Rattle.trim.specs.Steps.{unused}
use Rattle.trim.proofs.Falls.{next_none, next_other, next_asked}
use Rattle.sections.specs.Sections.{head_in}
use Rattle.trim.proofs.ask_next.Goals as goal

pub returns-then-splits-j : goal.returns-then-splits-j
returns-then-splits-j c =
    let a = c.args in
    let g = image_in a.tables.now.obj in
    let head = head_in a.tables.now.obj in
    let row = row_at (columns_of a.splits.now) in
    next_none g head a.s row a.splits.now.count a.j c.if-splits-j.true

pub returns-then-next-s : goal.returns-then-next-s
returns-then-next-s c =
    let a = c.args in
    let g = image_in a.tables.now.obj in
    let head = head_in a.tables.now.obj in
    let row = row_at (columns_of a.splits.now) in
    next_other g head a.s row a.splits.now.count a.j c.if-splits-j.false _ c.row-next.ensures c.if-next-s.true

pub returns-in_err-split_alignment : goal.returns-in_err-split_alignment
unfolding ◌>>=◌
returns-in_err-split_alignment c =
    let a = c.args in
    let g = image_in a.tables.now.obj in
    let head = head_in a.tables.now.obj in
    let row = row_at (columns_of a.splits.now) in
    let e = c.if-next-s.false in
    let p = err_from_is_err_and c.from_residual.result c.from_residual.ensures.1 in
    rw p.1
    (ap (λ (m : ℕ). refused 11 m a.s.start) (sym e)
    ∙ ap unused (sym (ap (alignment_meaning c.row-next.result.section a.s.start) c.in_err-split_alignment.was) ∙ c.split_alignment.ensures)
    ∙ next_asked g head a.s row a.splits.now.count a.j c.if-splits-j.false _ c.row-next.ensures e)

pub returns : goal.returns
unfolding ◌>>=◌
returns c =
    let a = c.args in
    let g = image_in a.tables.now.obj in
    let head = head_in a.tables.now.obj in
    let row = row_at (columns_of a.splits.now) in
    ap unused (sym (ap (alignment_meaning c.row-next.result.section a.s.start) c.in_ok-split_alignment.was) ∙ c.split_alignment.ensures)
    ∙ next_asked g head a.s row a.splits.now.count a.j c.if-splits-j.false _ c.row-next.ensures c.if-next-s.false
