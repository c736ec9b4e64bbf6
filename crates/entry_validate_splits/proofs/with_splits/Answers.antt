-- `entry_validate_splits::with_splits` meets its contract. Splits that are refused are the answer; else the table holds them, and they are checked.
-- Assumes nothing.
use mathlib.Core.Path.{sym, ap, ◌∙◌}
use native.Mathlib.Omega.{arith}
use lib.ListN.{length}
use Rattle.lists.proofs.Outcomes.{then_stops, then_goes}
use Rattle.obj.specs.Answers.{meaning}
use Rattle.obj.proofs.Errors.{same_err}
use Rattle.symbol_order.specs.Order.{symbol_of}
use Rattle.validate.specs.Check.{validate}
use Rattle.entry_validate_splits.specs.Lines.{from_splits}
use Rattle.entry_validate_splits.proofs.with_splits.Goals as goal

pub take_split_columns-requires : goal.take_split_columns-requires
take_split_columns-requires c = (c.requires.0, record { few = omega arith; long = omega arith })

pub returns-in_err-take_split_columns : goal.returns-in_err-take_split_columns
unfolding from_splits
returns-in_err-take_split_columns c =
    rw (same_err c.from_residual.result c.take_split_columns.result c.from_residual.ensures.1 c.in_err-take_split_columns.was)
    (then_stops c.take_split_columns.ensures.taken.said _ (ap meaning c.in_err-take_split_columns.was))

pub returns : goal.returns
unfolding from_splits
returns c =
    let a = c.args in
    let taken = c.take_split_columns.ensures.taken in
    let e = ap meaning c.in_ok-take_split_columns.was in
    c.validate.ensures
    ∙ ap (validate (symbol_of a.obj.now.symbols.bytes.now a.obj.now.symbols.places.now) (length a.obj.now.symbols.places.now)) (c.columns.ensures.rows ∙ taken.taken (sym taken.said ∙ e))
    ∙ then_goes taken.said _ e
