-- `stage_splits::take_split_columns` meets its contract. A refused table is the answer; else the rows loaded from its places are its splits. Assumes nothing.
use mathlib.Core.Path.{◌∙◌}
use native.Mathlib.Omega.{arith}
use Rattle.lists.proofs.Outcomes.{not_both}
use Rattle.obj.proofs.Errors.{is_err}
use Rattle.obj.specs.Records.{split_width}
use Rattle.stage_tables.proofs.Laws.{taken_few, taken-count}
use Rattle.tables.specs.Records.{splits_in}
use Rattle.stage_splits.proofs.Laws.{splits_loadable}
use Rattle.stage_splits.proofs.take_split_columns.Goals as goal

pub returns-in_err-splits-clause-taken : goal.returns-in_err-splits-clause-taken
returns-in_err-splits-clause-taken c =
    let said = c.in_err-splits.ensures.said in
    rw (is_err _ c.from_residual.ensures.1) (record { said = said; taken = λ q. absurd (not_both (said ∙ q)) })

pub load-requires : goal.load-requires
load-requires c =
    let k = c.in_ok-splits.ensures in
    (splits_loadable _ _ c.args.b.now _ k, omega (arith, taken_few split_width _ c.args.b.now _ k, taken-count split_width c.args.b.now k.table))

pub returns-clause-taken : goal.returns-clause-taken
returns-clause-taken c =
    let k = c.in_ok-splits.ensures in
    record { said = k.said; taken = λ _. c.load.ensures.rows ∙ (λ z. splits_in (k.table.bytes z) (k.table.places z)) }
