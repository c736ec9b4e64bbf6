-- `entry_piece_bytes::find` meets its contract: the sizes of both tables, and then the piece. Assumes nothing.
use mathlib.Core.Path.{sym, ap, ◌∙◌}
use Rattle.obj.proofs.Errors.{is_err}
use Rattle.lists.proofs.Binds.{after-stops}
use Rattle.lists.proofs.Outcomes.{then_goes}
use Rattle.obj.specs.Answers.{meaning}
use Rattle.entry_piece_bytes.specs.Entry.{place_of}
use Rattle.entry_piece_bytes.proofs.find.Goals as goal

pub returns-in_err-table_size : goal.returns-in_err-table_size
unfolding place_of
returns-in_err-table_size c =
    rw (is_err _ c.from_residual.ensures.1) (sym (after-stops _ _ _ _ _ (sym c.in_err-table_size.ensures)))

pub returns-in_err-table_size-2 : goal.returns-in_err-table_size-2
unfolding place_of
returns-in_err-table_size-2 c =
    rw (is_err _ c.from_residual-in_err-table_size-2.ensures.1) (sym (after-stops _ _ _ _ _ (sym c.in_err-table_size-2.ensures)) ∙ then_goes c.table_size.ensures _ (ap meaning c.in_ok-table_size.was))

pub returns : goal.returns
unfolding place_of
returns c =
    c.find_piece.ensures
    ∙ then_goes c.table_size-2.ensures _ (ap meaning c.in_ok-table_size-2.was)
    ∙ then_goes c.table_size.ensures _ (ap meaning c.in_ok-table_size.was)
