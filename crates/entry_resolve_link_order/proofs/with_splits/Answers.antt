-- `entry_resolve_link_order::with_splits` meets its contract: a refused table is the answer; else the columns hold the splits, the units have their places, and the stage is asked.
use mathlib.Core.Path.{refl, sym, ap, ◌∙◌}
use native.Mathlib.Omega.{arith}
use lib.ListN.{length}
use Rattle.lists.proofs.Outcomes.{then_goes}
use Rattle.obj.specs.Answers.{meaning}
use Rattle.tables.specs.Records.{sections_in}
use Rattle.std.specs.Prelude.{Err}
use Rattle.splits.specs.Table.{columns_in}
use Rattle.order.proofs.Stage.{resolves_as}
use Rattle.entry_resolve_link_order.specs.Lines.{from_splits}
use Rattle.entry_resolve_link_order.proofs.Laws.{refused_table, splits-taken, rows_taken, units_taken, from_splits_as}
use Rattle.entry_resolve_link_order.proofs.Refusals.{low_splits, low_units}
use Rattle.entry_resolve_link_order.proofs.with_splits.Goals as goal

pub take_split_columns-requires : goal.take_split_columns-requires
take_split_columns-requires c = (c.requires.held, record { few = omega arith; long = omega arith })

pub returns-in_err-take_split_columns : goal.returns-in_err-take_split_columns
unfolding from_splits
returns-in_err-take_split_columns c =
    let a = c.args in
    refused_table _ _ _ _ _ c.from_residual.result c.take_split_columns.ensures.taken.said c.in_err-take_split_columns.was c.from_residual.ensures.1
    (low_splits a.names.now.lengths.now (sections_in a.heads.now.bytes.now a.heads.now.places.now) a.lent.now.splits.now)

pub returns-in_err-units : goal.returns-in_err-units
unfolding from_splits
returns-in_err-units c =
    let a = c.args in
    let f = c.from_residual-in_err-units in
    resolves_as (then_goes c.take_split_columns.ensures.taken.said _ (ap meaning c.in_ok-take_split_columns.was))
    (refused_table _ _ _ _ (Err _) f.result c.in_err-units.ensures.said refl f.ensures.1 (low_units a.names.now.lengths.now a.lent.now.units.now))

pub invariant_of-tables-clause-held : goal.invariant_of-tables-clause-held
invariant_of-tables-clause-held c =
    let a = c.args in
    let t = c.take_split_columns in
    let e = c.columns.ensures.columns in
    rw (e.starts, e.ends, e.units, e.rest, e.count)
    (splits-taken a.names.now.lengths.now a.heads.now.bytes.now a.heads.now.places.now a.names.now.bytes.now a.names.now.places.now a.lent.now.splits.now (columns_in t.new.table) t.new.table.count
    t.ensures.taken (ap meaning c.in_ok-take_split_columns.was) c.requires).given

pub invariant_of-tables-clause-whole : goal.invariant_of-tables-clause-whole
invariant_of-tables-clause-whole c =
    (units_taken c.args.names.now.lengths.now c.args.lent.now.units.now c.in_ok-units.ensures c.requires.few).whole

pub invariant_of-tables-clause-few_units : goal.invariant_of-tables-clause-few_units
invariant_of-tables-clause-few_units c =
    (units_taken c.args.names.now.lengths.now c.args.lent.now.units.now c.in_ok-units.ensures c.requires.few).few

pub ordered-requires : goal.ordered-requires
ordered-requires c =
    let a = c.args in
    let t = c.take_split_columns in
    let e = c.columns.ensures.columns in
    record {
      splits =
          rw (e.starts, e.ends, e.units, e.rest, e.count)
          (splits-taken a.names.now.lengths.now a.heads.now.bytes.now a.heads.now.places.now a.names.now.bytes.now a.names.now.places.now a.lent.now.splits.now (columns_in t.new.table) t.new.table.count
          t.ensures.taken (ap meaning c.in_ok-take_split_columns.was) c.requires).named;
      records = (units_taken a.names.now.lengths.now a.lent.now.units.now c.in_ok-units.ensures c.requires.few).named;
    }

pub returns : goal.returns
returns c =
    let a = c.args in
    let t = c.take_split_columns in
    let told = ap meaning c.in_ok-take_split_columns.was in
    let u = c.in_ok-units.ensures in
    from_splits_as _ _ a.names.now.lengths.now _ a.lent.now.splits.now a.lent.now.units.now (length a.out.now) _
    (c.columns.ensures.rows
    ∙ rows_taken a.names.now.lengths.now a.heads.now.bytes.now a.heads.now.places.now a.names.now.bytes.now a.names.now.places.now a.lent.now.splits.now (columns_in t.new.table) t.new.table.count t.ensures.taken told)
    (sym t.ensures.taken.said ∙ told) u.table.places (sym u.said) (rw u.table.bytes at c.ordered.ensures)
