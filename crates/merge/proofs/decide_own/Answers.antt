-- `merge::decide_own` meets its contract: the first and the second split of the unit say which line of the definition it is.
-- Assumes nothing.
use mathlib.Core.Path.{sym, ap, ◌∙◌}
use Rattle.splits.specs.Columns.{rows}
use Rattle.splits.specs.Table.{columns_of}
use Rattle.splits.proofs.Rows.{good_row}
use Rattle.merge.specs.Merge.{on_old}
use Rattle.merge.proofs.Decisions.{own_full, own_pushed, own_several, own_one, answers}
use Rattle.merge.proofs.decide_own.Goals as goal

pub returns-then-room-splits : goal.returns-then-room-splits
returns-then-room-splits c =
    let a = c.args in
    let k = columns_of a.splits.now in
    answers _ c.refuse_at.ensures (own_full a.room k a.splits.now.count a.new c.in_default.ensures c.if-room-splits.true)

pub returns-in_default : goal.returns-in_default
returns-in_default c =
    let a = c.args in
    let k = columns_of a.splits.now in
    (sym (own_pushed a.room k a.splits.now.count a.new c.in_default.ensures c.if-room-splits.false), tt)

pub returns-then-is_some : goal.returns-then-is_some
returns-then-is_some c =
    let a = c.args in
    let k = columns_of a.splits.now in
    let i = c.in-Some.ensures in
    let second = c.next_of_unit-second in
    answers _ c.refuse_at-then-is_some.ensures (own_several a.room k a.splits.now.count a.new c.in-Some.i i.0 i.1 second.result second.ensures (sym c.is_some.ensures ∙ c.if-is_some.true))

pub decide_old-requires : goal.decide_old-requires
decide_old-requires c =
    let q = c.requires in
    (q, rw c.row-old.ensures (good_row _ _ _ _))

pub returns : goal.returns
returns c =
    let a = c.args in
    let k = columns_of a.splits.now in
    let i = c.in-Some.ensures in
    let second = c.next_of_unit-second in
    let d = c.decide_old.ensures in (
      d.0
          ∙ ap (on_old (rows k a.splits.now.count) a.new) c.row-old.ensures
          ∙ sym (own_one a.room k a.splits.now.count a.new c.in-Some.i i.0 i.1 second.result second.ensures (sym c.is_some.ensures ∙ c.if-is_some.false)),
      d.1,
    )
