-- `mend::next_of` meets its contract: the row after, if there is one and it is of the section. Assumes nothing.
use Rattle.splits.specs.Columns.{row_of, row_at}
use Rattle.splits.specs.Table.{columns_of}
use Rattle.mend.proofs.Steps.{next_none, next_other, next_same}
use Rattle.mend.proofs.next_of.Goals as goal

pub returns-then-splits-k : goal.returns-then-splits-k
returns-then-splits-k c =
    let a = c.args in
    let f = row_at (columns_of a.splits.now) in
    next_none f (f a.i) a.i a.splits.now.count c.if-splits-k.true

pub returns-then-section_of : goal.returns-then-section_of
unfolding row_of
returns-then-section_of c =
    let a = c.args in
    let f = row_at (columns_of a.splits.now) in
    next_other f (f a.i) a.i a.splits.now.count c.if-splits-k.false (rw (c.section_of.ensures, c.section_of-2.ensures) at c.if-section_of.true)

pub returns : goal.returns
unfolding row_of
returns c =
    let a = c.args in
    let f = row_at (columns_of a.splits.now) in
    next_same f (f a.i) a.i a.splits.now.count c.if-splits-k.false (rw (c.section_of.ensures, c.section_of-2.ensures) at c.if-section_of.false)
