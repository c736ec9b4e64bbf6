-- `entry_update_common_splits::from_splits` meets its contract. Splits that are refused are the answer; else the table holds them, and there is room for them in
-- the output; a refusal of the stage is the answer, and else its rows are laid into the outputs. Assumes nothing.
use mathlib.Core.Path.{sym, ap, ◌∙◌}
use native.Mathlib.Omega.{arith}
use Prim.Native.Nat.{ℕ}
use lib.ListN.{length}
use Rattle.std.specs.Prelude.{is_some, unwrap_or}
use Rattle.obj.specs.Answers.{meaning}
use Rattle.obj.proofs.Errors.{same_err}
use Rattle.tables.specs.Records.{sections_in}
use Rattle.stage_tables.specs.StageTables.{splits_check}
use Rattle.stage_splits.proofs.Laws.{room_low, room_fits, gives_stops}
use Rattle.common.specs.Sections.{bss_numbers}
use Rattle.entry_update_common_splits.specs.Entry.{from_splits}
use Rattle.entry_update_common_splits.proofs.Laws.{gives_refused, gives_laid, update_goes}
use Rattle.entry_update_common_splits.proofs.from_splits.Goals as goal

pub invariant_of-table : goal.invariant_of-table
invariant_of-table c =
    let e = c.room_of.ensures in
    let low = room_low (length c.args.output.now.splits.now) in
    record {
      long = record { starts = omega (arith, e, low); ends = omega (arith, e, low); units = omega (arith, e, low); rest = omega (arith, e, low) };
      fits = omega arith;
    }

pub take_split_columns-requires : goal.take_split_columns-requires
take_split_columns-requires c =
    let e = c.room_of.ensures in
    let low = room_low (length c.args.output.now.splits.now) in
    (c.requires.1, record { few = omega (arith, e, low); long = omega (arith, e, low) })

pub returns-in_err-take_split_columns-clause-gives : goal.returns-in_err-take_split_columns-clause-gives
unfolding from_splits
returns-in_err-take_split_columns-clause-gives c =
    let a = c.args in
    let t = c.take_split_columns in
    let said = t.ensures.taken.said ∙ ap (λ (k : ℕ). splits_check k a.names.now.lengths.now (sections_in a.heads.now.bytes.now a.heads.now.places.now) a.splits.now) c.room_of.ensures in
    rw (same_err c.from_residual.result t.result c.from_residual.ensures.1 c.in_err-take_split_columns.was) (gives_stops _ said (ap meaning c.in_err-take_split_columns.was))

pub update_common_records-requires : goal.update_common_records-requires
update_common_records-requires c =
    let t = c.take_split_columns in
    (c.requires.0, omega (arith, t.new.table.fits, t.ensures.lent.room, c.room_of.ensures, room_low (length c.args.output.now.splits.now)))

pub returns-in_err-update_common_records-clause-gives : goal.returns-in_err-update_common_records-clause-gives
returns-in_err-update_common_records-clause-gives c =
    let a = c.args in
    let t = c.take_split_columns in
    let u = c.update_common_records in
    let k = t.ensures.lent in
    let passed = sym t.ensures.taken.said ∙ ap meaning c.in_ok-take_split_columns.was in
    let starts = c.starts-2-1.given.1.1 (sym k.starts.name) in
    let ends = c.ends-2-1.given.1.1 (sym k.ends.name) in
    let units = c.units-2-1.given.1.1 (sym k.units.name) in
    let rest = c.rest-2-1.given.1.1 (sym k.rest.name) in
    rw (same_err c.from_residual-in_err-update_common_records.result u.result c.from_residual-in_err-update_common_records.ensures.1 c.in_err-update_common_records.was)
    (update_goes a.names.now.lengths.now (sections_in a.heads.now.bytes.now a.heads.now.places.now) (bss_numbers a.names.now a.heads.now) a.splits.now (is_some a.given) (unwrap_or a.given 0)
    (length a.output.now.splits.now) c.room_of.ensures passed (t.ensures.taken.taken passed)
    (gives_refused _ _ (rw (starts, ends, units, rest) at u.ensures.rows) c.in_err-update_common_records.was))

pub give_splits-requires : goal.give_splits-requires
give_splits-requires c =
    let t = c.take_split_columns in
    let n = c.columns.ensures.count in
    let m = c.update_common_records.ensures.others.count in
    let room = t.ensures.lent.room in
    let size = length c.args.output.now.splits.now in
    (omega (arith, n, m, t.new.table.fits, room, c.room_of.ensures, room_fits size), omega (arith, n, m, t.new.table.fits, room, c.room_of.ensures, room_low size))

pub returns-clause-gives : goal.returns-clause-gives
returns-clause-gives c =
    let a = c.args in
    let t = c.take_split_columns in
    let u = c.update_common_records in
    let k = t.ensures.lent in
    let e = c.columns.ensures in
    let passed = sym t.ensures.taken.said ∙ ap meaning c.in_ok-take_split_columns.was in
    let starts = c.starts-2-1.given.1.1 (sym k.starts.name) in
    let ends = c.ends-2-1.given.1.1 (sym k.ends.name) in
    let units = c.units-2-1.given.1.1 (sym k.units.name) in
    let rest = c.rest-2-1.given.1.1 (sym k.rest.name) in
    let w = gives_laid _ _ (rw (starts, ends, units, rest) at u.ensures.rows) c.in_ok-update_common_records.was (rw (e.columns, e.count) at c.give_splits.ensures.laid) in
    update_goes a.names.now.lengths.now (sections_in a.heads.now.bytes.now a.heads.now.places.now) (bss_numbers a.names.now a.heads.now) a.splits.now (is_some a.given) (unwrap_or a.given 0)
    (length a.output.now.splits.now) c.room_of.ensures passed (t.ensures.taken.taken passed) (rw c.in_ok-update_common_records.was at w)
