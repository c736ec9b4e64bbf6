-- `entry_trim_splits::from_splits` meets its contract. Splits that are refused are the answer; else the table holds them, each in its place, and they are
-- trimmed; a refusal of the trim is the answer, and else its rows are laid into the outputs. Assumes nothing.
use mathlib.Core.Path.{sym, ap, ◌∙◌}
use native.Mathlib.Omega.{arith}
use Prim.Native.Nat.{ℕ}
use lib.ListN.{length, length-map}
use Rattle.obj.specs.Answers.{meaning}
use Rattle.obj.specs.Records.{section_at}
use Rattle.obj.proofs.Errors.{same_err}
use Rattle.tables.specs.Records.{sections_in}
use Rattle.stage_tables.specs.StageTables.{splits_check}
use Rattle.sections.specs.Image.{image_in}
use Rattle.splits.specs.Table.{columns_in}
use Rattle.stage_splits.proofs.Laws.{room_low, room_fits, gives_stops}
use Rattle.trim.specs.Lent.{sections_in as sections_lent}
use Rattle.entry_trim_splits.specs.Entry.{from_splits}
use Rattle.entry_trim_splits.proofs.Laws.{rows-placed, seen_refused, seen-laid, trim_goes}
use Rattle.entry_trim_splits.proofs.from_splits.Goals as goal

pub invariant_of-table : goal.invariant_of-table
invariant_of-table c =
    let e = c.room_of.ensures in
    let low = room_low (length c.args.output.now.splits.now) in
    record {
      long = record { starts = omega (arith, e, low); ends = omega (arith, e, low); units = omega (arith, e, low); rest = omega (arith, e, low) };
      fits = omega arith;
    }

pub take_split_columns-requires : goal.take_split_columns-requires
take_split_columns-requires c =
    let e = c.room_of.ensures in
    let low = room_low (length c.args.output.now.splits.now) in
    (c.requires.2, record { few = omega (arith, e, low); long = omega (arith, e, low) })

pub returns-in_err-take_split_columns-clause-gives : goal.returns-in_err-take_split_columns-clause-gives
unfolding from_splits
returns-in_err-take_split_columns-clause-gives c =
    let a = c.args in
    let t = c.take_split_columns in
    let said = t.ensures.taken.said ∙ ap (λ (k : ℕ). splits_check k a.obj.now.names.lengths.now (sections_in a.obj.now.heads.bytes.now a.obj.now.heads.places.now) a.splits.now) c.room_of.ensures in
    rw (same_err c.from_residual.result t.result c.from_residual.ensures.1 c.in_err-take_split_columns.was) (gives_stops _ said (ap meaning c.in_err-take_split_columns.was))

pub trim-requires : goal.trim-requires
trim-requires c =
    let a = c.args in
    let t = c.take_split_columns in
    let k = t.ensures.lent in
    let heads = a.obj.now.heads in
    let passed = sym t.ensures.taken.said ∙ ap meaning c.in_ok-take_split_columns.was in
    let low = room_low (length a.output.now.splits.now) in
    let starts = c.starts-2-1.given.1.1 (sym k.starts.name) in
    let ends = c.ends-2-1.given.1.1 (sym k.ends.name) in
    let units = c.units-2-1.given.1.1 (sym k.units.name) in
    let rest = c.rest-2-1.given.1.1 (sym k.rest.name) in (
      c.requires.0,
      c.requires.1,
      c.requires.3,
      rw (starts, ends, units, rest) (rows-placed _ a.obj.now.names.lengths.now (sections_in heads.bytes.now heads.places.now) a.splits.now (columns_in t.new.table) t.new.table.count passed
          (t.ensures.taken.taken passed) (length heads.places.now) (length-map heads.places.now (section_at heads.bytes.now))),
      omega (arith, t.new.table.fits, k.room, c.room_of.ensures, low),
    )

pub returns-in_err-trim-clause-gives : goal.returns-in_err-trim-clause-gives
returns-in_err-trim-clause-gives c =
    let a = c.args in
    let t = c.take_split_columns in
    let k = t.ensures.lent in
    let heads = a.obj.now.heads in
    let passed = sym t.ensures.taken.said ∙ ap meaning c.in_ok-take_split_columns.was in
    let starts = c.starts-2-1.given.1.1 (sym k.starts.name) in
    let ends = c.ends-2-1.given.1.1 (sym k.ends.name) in
    let units = c.units-2-1.given.1.1 (sym k.units.name) in
    let rest = c.rest-2-1.given.1.1 (sym k.rest.name) in
    rw (same_err c.from_residual-in_err-trim.result c.trim.result c.from_residual-in_err-trim.ensures.1 c.in_err-trim.was)
    (trim_goes a.obj.now.names.lengths.now (sections_in heads.bytes.now heads.places.now) (image_in a.obj.now) (sections_lent a.obj.now a.image.now) a.splits.now
    (length a.output.now.splits.now) c.room_of.ensures passed (t.ensures.taken.taken passed)
    (seen_refused _ _ _ (rw (starts, ends, units, rest) at c.trim.ensures.rows) c.in_err-trim.was))

pub give_splits-requires : goal.give_splits-requires
give_splits-requires c =
    let t = c.take_split_columns in
    let n = c.columns.ensures.count in
    let m = c.trim.ensures.others.count in
    let room = t.ensures.lent.room in
    let size = length c.args.output.now.splits.now in
    (omega (arith, n, m, t.new.table.fits, room, c.room_of.ensures, room_fits size), omega (arith, n, m, t.new.table.fits, room, c.room_of.ensures, room_low size))

pub returns-clause-gives : goal.returns-clause-gives
returns-clause-gives c =
    let a = c.args in
    let t = c.take_split_columns in
    let k = t.ensures.lent in
    let e = c.columns.ensures in
    let heads = a.obj.now.heads in
    let passed = sym t.ensures.taken.said ∙ ap meaning c.in_ok-take_split_columns.was in
    let starts = c.starts-2-1.given.1.1 (sym k.starts.name) in
    let ends = c.ends-2-1.given.1.1 (sym k.ends.name) in
    let units = c.units-2-1.given.1.1 (sym k.units.name) in
    let rest = c.rest-2-1.given.1.1 (sym k.rest.name) in
    let w = seen-laid _ _ _ (rw (starts, ends, units, rest) at c.trim.ensures.rows) c.in_ok-trim.was (rw (e.columns, e.count) at c.give_splits.ensures.laid) in
    trim_goes a.obj.now.names.lengths.now (sections_in heads.bytes.now heads.places.now) (image_in a.obj.now) (sections_lent a.obj.now a.image.now) a.splits.now
    (length a.output.now.splits.now) c.room_of.ensures passed (t.ensures.taken.taken passed) (rw c.in_ok-trim.was at w)
