-- `head_tables::count_checked`: tables that are refused are the answer, and else the pieces' count.
use mathlib.Core.Path.{sym, ◌∙◌}
use Rattle.lists.proofs.Binds.{after_goes, after-stops}
use Rattle.obj.proofs.Errors.{is_err}
use Rattle.head_tables.specs.HeadTables.{counted}
use Rattle.head_tables.proofs.count_checked.Goals as goal

pub returns-in_err-check_head_tables : goal.returns-in_err-check_head_tables
unfolding counted
returns-in_err-check_head_tables c =
    rw (is_err _ c.from_residual.ensures.1) (sym (after-stops _ _ _ _ _ (sym c.in_err-check_head_tables.ensures)))

pub returns : goal.returns
unfolding counted
returns c = c.count_pieces.ensures ∙ sym (after_goes _ _ (sym c.in_ok-check_head_tables.ensures))
