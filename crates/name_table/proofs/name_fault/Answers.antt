-- `name_table::name_fault` meets its contract. The tests are the definition's: the name is the part that the definition takes, and the index answers
-- its number among the names before it. Assumes nothing.
use Rattle.std.proofs.Common.{ℕ, ◌≤◌, ◌∙◌, ap, arith, length, true, false}
use Rattle.lists.specs.Rows.{any_of, any_from}
use Rattle.obj.specs.Answers.{meaning}
use Rattle.names.proofs.Indexes.{sought_asked}
use Rattle.tables.specs.Tables.{record_check}
use Rattle.tables.proofs.Loops.{no_fault, some_fault}
use Rattle.name_table.proofs.Laws.{not_cut, searched, fault_cut, fault_asked}
use Rattle.name_table.proofs.name_fault.Goals as goal
use Rattle.name_table.proofs.name_fault.Goals.{After-name-1}

pub returns-then-end-start : goal.returns-then-end-start
unfolding any_of any_from
returns-then-end-start c =
    ap meaning c.refuse.ensures
    ∙ some_fault 1 c.args.k (omega arith)
    ∙ ap (λ (f : ℕ). record_check f c.args.k) (fault_cut _ _ _ c.start_of-start.ensures.is c.end_of-end.ensures.is c.if-end-start.true)

-- the name is not cut
whole : (c : After-name-1)
    → (c.start_of-start.result ≤ c.end_of-end.result)
    × (c.end_of-end.result ≤ length c.args.names.now.bytes.now)
unfolding any_of any_from
whole c = not_cut _ c.start_of-start.result c.end_of-end.result c.if-end-start.false

pub slice_bounds-name-count : goal.slice_bounds-name-count
slice_bounds-name-count c = (whole c).0

pub slice_bounds-name-start : goal.slice_bounds-name-start
slice_bounds-name-start c = (whole c).0

pub slice_bounds-name-end : goal.slice_bounds-name-end
slice_bounds-name-end c = (whole c).1

pub find-requires : goal.find-requires
find-requires c = searched c.requires.2

pub returns-then-bad_name-is_some : goal.returns-then-bad_name-is_some
unfolding any_of any_from
returns-then-bad_name-is_some c =
    ap meaning c.refuse-then-bad_name-is_some.ensures
    ∙ some_fault 3 c.args.k (omega arith)
    ∙ ap (λ (f : ℕ). record_check f c.args.k)
    (fault_asked _ _ _ c.start_of-start.ensures.is c.end_of-end.ensures.is
    true c.if-end-start.false c.requires.2.names c.bad_name.ensures (c.is_some.ensures ∙ sought_asked _ _ _ c.find.ensures) c.if-bad_name-is_some.true)

pub returns : goal.returns
unfolding any_of any_from
returns c =
    no_fault c.args.k
    ∙ ap (λ (f : ℕ). record_check f c.args.k)
    (fault_asked _ _ _ c.start_of-start.ensures.is c.end_of-end.ensures.is
    false c.if-end-start.false c.requires.2.names c.bad_name.ensures (c.is_some.ensures ∙ sought_asked _ _ _ c.find.ensures) c.if-bad_name-is_some.false)
