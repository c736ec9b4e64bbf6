-- `head_tables::check_head_tables` meets its contract. Names that are refused are the answer; else the arrays have their lengths.
-- Assumes nothing.
use mathlib.Core.Path.{sym, ap, ◌∙◌}
use mathlib.Core.List.{List}
use Prim.Native.Nat.{ℕ}
use Rattle.lists.proofs.Outcomes.{then_stops, then_goes}
use Rattle.obj.specs.Answers.{meaning}
use Rattle.stage_tables.specs.StageTables.{sections_check}
use Rattle.head_tables.specs.HeadTables.{head_tables}
use Rattle.head_tables.proofs.check_head_tables.Goals as goal
use Rattle.obj.proofs.Errors.{same_err}

pub returns-in_err-check : goal.returns-in_err-check
unfolding head_tables
returns-in_err-check c =
    rw (same_err c.from_residual.result c.check.result c.from_residual.ensures.1 c.in_err-check.was)
    (then_stops c.check.ensures.said _ (ap meaning c.in_err-check.was))

pub names-requires : goal.names-requires
names-requires c = let s = c.check.ensures in s.stored (sym s.said ∙ ap meaning c.in_ok-check.was)

pub returns : goal.returns
unfolding head_tables
returns c =
    let s = c.check.ensures in
    c.check_heads.ensures
    ∙ ap (λ (l : List ℕ). sections_check 64 l c.args.sections.now) c.names.ensures.lengths
    ∙ then_goes s.said _ (ap meaning c.in_ok-check.was)
