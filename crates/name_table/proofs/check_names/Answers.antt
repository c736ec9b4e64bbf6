-- `name_table::check_names` meets its contract. A refused size is the answer; else the heads are cleared, the columns hold no names, and the names follow.
-- Assumes nothing.
use mathlib.Core.Path.{sym, ap, ◌∙◌}
use native.Mathlib.Omega.{arith}
use Rattle.lists.proofs.Outcomes.{then_stops, then_goes}
use Rattle.obj.specs.Answers.{meaning}
use Rattle.names.proofs.Indexes.{indexed_cleared}
use Rattle.tables.proofs.Laws.{size_passed}
use Rattle.name_table.specs.NameTable.{names_check}
use Rattle.name_table.proofs.Laws.{stored_none, stores_as, stores_nothing}
use Rattle.name_table.proofs.check_names.Goals as goal
use Rattle.obj.proofs.Errors.{same_err}

pub returns-in_err-table_size-clause-stored : goal.returns-in_err-table_size-clause-stored
unfolding names_check
returns-in_err-table_size-clause-stored c =
    rw (same_err c.from_residual.result c.table_size.result c.from_residual.ensures.1 c.in_err-table_size.was)
    (let said = c.table_size.ensures in
    let refused = ap meaning c.in_err-table_size.was in
    stores_nothing (then_stops said _ refused) refused)

pub take_names-requires : goal.take_names-requires
take_names-requires c =
    let size = size_passed 2 _ _ (sym c.table_size.ensures ∙ ap meaning c.in_ok-table_size.was) in
    let room = c.args.columns.now.room in
    (omega (arith, size.1, c.requires), stored_none _ _ _ _ _ _ (indexed_cleared _ _ _ room.heads_long c.clear_heads.ensures room.chain_long))

pub returns-clause-stored : goal.returns-clause-stored
unfolding names_check
returns-clause-stored c =
    stores_as (then_goes c.table_size.ensures _ (ap meaning c.in_ok-table_size.was)) c.take_names.ensures.stored
