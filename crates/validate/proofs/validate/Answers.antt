-- `validate::validate` meets its contract. Invariant: checking the rows that are left, after the section and end of the last one passed, is checking
-- the table.
use mathlib.Core.Path.{sym, ap, ◌∙◌}
use native.Mathlib.Omega.{arith}
use lib.ListN.{length}
use Rattle.lists.proofs.Parts.{tabulate_all}
use Rattle.lists.proofs.Outcomes.{then_stops, then_goes}
use Rattle.obj.specs.Answers.{meaning}
use Rattle.symbol_order.specs.Order.{symbol_of}
use Rattle.splits.specs.Columns.{row_at}
use Rattle.splits.specs.Table.{columns_of}
use Rattle.validate.specs.Check.{validate_from, validate}
use Rattle.validate.proofs.Steps.{check_turn, check_ended}
use Rattle.validate.proofs.validate.Goals as goal
use Rattle.obj.proofs.Errors.{same_err}

pub loop-i-init : goal.loop-i-init
unfolding validate
loop-i-init c = (omega arith, ap (validate_from _ _ 0 0) (tabulate_all _ _))

pub returns-in_err-validate_one : goal.returns-in_err-validate_one
returns-in_err-validate_one c =
    rw (same_err c.from_residual.result c.validate_one.result c.from_residual.ensures.1 c.in_err-validate_one.was)
    (let a = c.args in
    let l = c.loop-i in
    let row = row_at (columns_of a.splits.now) in
    let t = check_turn (symbol_of a.table.now.bytes.now a.table.now.places.now) (length a.table.now.places.now) row a.splits.now.count l.before l.last l.i c.loop-i-test.true _ c.row-s.ensures in
    then_stops c.validate_one.ensures _ (ap meaning c.in_err-validate_one.was) ∙ sym t ∙ l.invariant.1)

pub loop-i-preserved : goal.loop-i-preserved
loop-i-preserved c =
    let a = c.args in
    let l = c.loop-i in
    let row = row_at (columns_of a.splits.now) in
    let t = check_turn (symbol_of a.table.now.bytes.now a.table.now.places.now) (length a.table.now.places.now) row a.splits.now.count l.before l.last l.i c.loop-i-test.true _ c.row-s.ensures in
    (omega (arith, c.loop-i-test.true), then_goes c.validate_one.ensures _ (ap meaning c.in_ok-validate_one.was) ∙ sym t ∙ l.invariant.1)

pub returns : goal.returns
returns c =
    let a = c.args in
    let l = c.loop-i in
    let row = row_at (columns_of a.splits.now) in
    sym (check_ended (symbol_of a.table.now.bytes.now a.table.now.places.now) (length a.table.now.places.now) row a.splits.now.count l.before l.last l.i c.loop-i-test.false) ∙ l.invariant.1
