-- `entry_mend_splits::from_splits` meets its contract. A refused table is the answer; else the table holds its splits, and what is mended in it is stored.
-- Assumes nothing.
use mathlib.Core.Path.{sym, ap, ◌∙◌}
use Prim.Native.Nat.{ℕ}
use native.Mathlib.Omega.{arith}
use lib.ListN.{length}
use Rattle.obj.specs.Answers.{meaning}
use Rattle.obj.proofs.Errors.{same_err}
use Rattle.tables.specs.Records.{sections_in}
use Rattle.splits.specs.Table.{ends_columns}
use Rattle.stage_splits.proofs.Laws.{room_low, room_fits}
use Rattle.mend_outputs.proofs.Laws.{gives_as, gives_stops}
use Rattle.entry_mend_splits.specs.Entry.{from_splits}
use Rattle.entry_mend_splits.proofs.Laws.{mended_gives, lines_low}
use Rattle.entry_mend_splits.proofs.from_splits.Goals as goal

pub invariant_of-table : goal.invariant_of-table
invariant_of-table c =
    let e = c.room_of.ensures in
    let low = room_low (length c.args.outputs.now.splits.now) in
    record {
      long = record { starts = omega (arith, e, low); ends = omega (arith, e, low); units = omega (arith, e, low); rest = omega (arith, e, low) };
      fits = omega arith;
    }

pub take_split_columns-requires : goal.take_split_columns-requires
take_split_columns-requires c =
    let e = c.room_of.ensures in
    let low = room_low (length c.args.outputs.now.splits.now) in
    (c.requires.0, record { few = omega (arith, e, low); long = omega (arith, e, low) })

pub returns-in_err-take_split_columns-clause-gives : goal.returns-in_err-take_split_columns-clause-gives
unfolding from_splits
returns-in_err-take_split_columns-clause-gives c =
    let a = c.args in
    let line-room = length a.outputs.now.lines.now in
    rw (same_err c.from_residual.result c.take_split_columns.result c.from_residual.ensures.1 c.in_err-take_split_columns.was)
    (gives_as (ap (λ (room : ℕ). from_splits a.lengths.now (sections_in a.heads.now.bytes.now a.heads.now.places.now) a.splits.now room line-room) c.room_of.ensures)
    (gives_stops _ c.take_split_columns.ensures.taken.said (ap meaning c.in_err-take_split_columns.was)))

pub give_mended-requires : goal.give_mended-requires
give_mended-requires c =
    let t = c.take_split_columns in
    let w = c.mend_table-r in
    let size = length c.args.outputs.now.splits.now in
    let room = t.ensures.lent.room ∙ c.room_of.ensures in
    let n = c.columns.ensures.count ∙ w.ensures.others.count in (
      omega (arith, room, n, room_fits size),
      omega (arith, room, n, room_low size),
      lines_low _ t.new.table.count (omega (arith, room, room_low size)) w.ensures.mended,
    )

pub returns-clause-gives : goal.returns-clause-gives
returns-clause-gives c =
    let t = c.take_split_columns in
    let k = t.ensures.lent in
    let w = c.mend_table-r in
    let a = c.args in
    let heads = sections_in a.heads.now.bytes.now a.heads.now.places.now in
    let told = ap meaning c.in_ok-take_split_columns.was in
    let room = k.room ∙ c.room_of.ensures in
    -- the arrays hold what the table held
    let starts = c.starts-2-1.given.1.1 (sym k.starts.name) in
    let ends = c.ends-2-1.given.1.1 (sym k.ends.name) in
    let units = c.units-2-1.given.1.1 (sym k.units.name) in
    let rest = c.rest-2-1.given.1.1 (sym k.rest.name) in
    let mended = rw (starts, ends, units, rest) at w.ensures.mended in
    let e = c.columns.ensures in
    rw c.give_mended.ensures.lines
    (gives_as (ap (λ (room : ℕ). from_splits a.lengths.now heads a.splits.now room (length a.outputs.now.lines.now)) c.room_of.ensures)
    (mended_gives a.lengths.now heads a.splits.now _ (ends_columns w.new.table) w.new.table.count _ t.ensures.taken.said told
    (omega (arith, room, w.ensures.others.count, room_fits (length a.outputs.now.splits.now))) c.requires.1 (t.ensures.taken.taken (sym t.ensures.taken.said ∙ told)) mended
    (rw (e.columns, e.count) at c.give_mended.ensures.stores)))
