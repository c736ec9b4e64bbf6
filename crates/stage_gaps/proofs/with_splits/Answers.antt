-- Splits that are refused are the answer; else the columns, which hold every table that is allowed, have them, and the filling starts from them.
use Rattle.std.proofs.Common.{rules, ap, arith, length}
use Rattle.obj.specs.Answers.{meaning}
use Rattle.obj.proofs.Errors.{same_err}
use Rattle.tables.specs.Records.{sections_in}
use Rattle.sections.specs.Image.{image_in}
use Rattle.sections.specs.Sections.{sections_of}
use Rattle.splits.specs.Table.{rows_in}
use Rattle.splits.proofs.Rows.{rows_long}
use Rattle.stage_splits.proofs.Laws.{room_low, room_fits}
use Rattle.gap_splits.specs.Answers.{ceilings}
use Rattle.names.specs.Listed.{names_in}
use Rattle.stage_gaps.proofs.Laws.{splits_stop, splits_go}
use Rattle.stage_gaps.proofs.with_splits.Goals as goal

pub invariant_of-table : goal.invariant_of-table
invariant_of-table c =
    record {
      long = rows_long (omega (arith, c.room_of.ensures, room_low (length c.args.outputs.now.splits.now))) (search rules) (search rules) (search rules) (search rules);
      fits = omega arith;
    }

pub take_split_columns-requires : goal.take_split_columns-requires
take_split_columns-requires c =
    let h = room_low (length c.args.outputs.now.splits.now) in
    let e = c.room_of.ensures in
    (c.requires.0.headed.all, record { few = omega (arith, e, h); long = omega (arith, e, h) })

pub returns-in_err-take_split_columns-clause-gives : goal.returns-in_err-take_split_columns-clause-gives
returns-in_err-take_split_columns-clause-gives c =
    let a = c.args in
    let o = a.obj.now in
    let t = c.take_split_columns in
    let base = names_in o.names in
    rw (same_err c.from_residual.result t.result c.from_residual.ensures.1 c.in_err-take_split_columns.was)
    (splits_stop o.names.lengths.now (sections_in o.heads.bytes.now o.heads.places.now) (image_in o)
    (sections_of o.heads.bytes.now o.heads.places.now a.image.now.bytes.now a.image.now.places.now) (ceilings base a.most.names a.most.bytes) base a.splits.now
    c.room_of.ensures t.ensures.taken.said (ap meaning c.in_err-take_split_columns.was))

pub with_added-requires : goal.with_added-requires
with_added-requires c =
    let size = length c.args.outputs.now.splits.now in
    let e = c.take_split_columns.ensures.lent.room in
    let f = c.room_of.ensures in
    (c.requires.1, omega (arith, e, f, room_low size), omega (arith, e, f, room_fits size))

pub returns-clause-gives : goal.returns-clause-gives
returns-clause-gives c =
    let a = c.args in
    let o = a.obj.now in
    let t = c.take_split_columns in
    let base = names_in o.names in
    let w = rw t.ensures.lent.room at c.with_added.ensures.gives in
    splits_go o.names.lengths.now (sections_in o.heads.bytes.now o.heads.places.now) (image_in o)
    (sections_of o.heads.bytes.now o.heads.places.now a.image.now.bytes.now a.image.now.places.now) (ceilings base a.most.names a.most.bytes) base a.splits.now
    (rows_in t.new.table) c.room_of.ensures t.ensures.taken (ap meaning c.in_ok-take_split_columns.was) w
