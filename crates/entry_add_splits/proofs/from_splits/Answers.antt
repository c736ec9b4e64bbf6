-- `entry_add_splits::from_splits` meets its contract. A refused table is the answer; else the split table holds its splits, the partial list has its places, and the merge
-- over both is that of the tables: its refusal is the answer, or its rows are laid into the outputs. Assumes nothing.
use mathlib.Core.Path.{refl, sym, ap, ◌∙◌}
use native.Mathlib.Omega.{arith}
use Prim.Native.Nat.{ℕ}
use lib.ListN.{length}
use Rattle.obj.specs.Answers.{meaning}
use Rattle.obj.proofs.Errors.{is_err, same_err}
use Rattle.tables.specs.Records.{sections_in, partials_in}
use Rattle.stage_tables.specs.StageTables.{splits_check}
use Rattle.stage_splits.specs.StageSplits.{room_of}
use Rattle.stage_splits.proofs.Laws.{room_low, room_fits, partials_mergeable, gives_stops, gives_goes}
use Rattle.entry_add_splits.specs.Entry.{from_splits}
use Rattle.entry_add_splits.proofs.Laws.{merge_goes, merge_refused, merge_laid}
use Rattle.entry_add_splits.proofs.from_splits.Goals as goal

pub invariant_of-table : goal.invariant_of-table
invariant_of-table c =
    let e = c.room_of.ensures in
    let low = room_low (length c.args.output.now.splits.now) in
    record {
      long = record { starts = omega (arith, e, low); ends = omega (arith, e, low); units = omega (arith, e, low); rest = omega (arith, e, low) };
      fits = omega arith;
    }

pub take_split_columns-requires : goal.take_split_columns-requires
take_split_columns-requires c =
    let e = c.room_of.ensures in
    let low = room_low (length c.args.output.now.splits.now) in
    (c.requires, record { few = omega (arith, e, low); long = omega (arith, e, low) })

pub returns-in_err-take_split_columns-clause-gives : goal.returns-in_err-take_split_columns-clause-gives
unfolding from_splits
returns-in_err-take_split_columns-clause-gives c =
    let a = c.args in
    let t = c.take_split_columns in
    let said = t.ensures.taken.said ∙ ap (λ (k : ℕ). splits_check k a.lengths.now (sections_in a.heads.now.bytes.now a.heads.now.places.now) a.lent.now.splits.now) c.room_of.ensures in
    rw (same_err c.from_residual.result t.result c.from_residual.ensures.1 c.in_err-take_split_columns.was) (gives_stops _ said (ap meaning c.in_err-take_split_columns.was))

pub returns-in_err-partials-clause-gives : goal.returns-in_err-partials-clause-gives
unfolding from_splits
returns-in_err-partials-clause-gives c =
    let a = c.args in
    let t = c.take_split_columns in
    let said = t.ensures.taken.said ∙ ap (λ (k : ℕ). splits_check k a.lengths.now (sections_in a.heads.now.bytes.now a.heads.now.places.now) a.lent.now.splits.now) c.room_of.ensures in
    rw (is_err _ c.from_residual-in_err-partials.ensures.1) (gives_goes (sym said ∙ ap meaning c.in_ok-take_split_columns.was) (gives_stops _ c.in_err-partials.ensures.said refl))

pub add_splits-requires : goal.add_splits-requires
add_splits-requires c = (c.requires, partials_mergeable _ _ c.args.lent.now.partials.now c.in_ok-partials.ensures (omega arith))

pub returns-in_err-add_splits-clause-gives : goal.returns-in_err-add_splits-clause-gives
returns-in_err-add_splits-clause-gives c =
    let a = c.args in
    let t = c.take_split_columns in
    let k = c.in_ok-partials.ensures in
    let heads = sections_in a.heads.now.bytes.now a.heads.now.places.now in
    let passed = sym t.ensures.taken.said ∙ ap meaning c.in_ok-take_split_columns.was in
    rw (same_err c.from_residual-in_err-add_splits.result c.add_splits.result c.from_residual-in_err-add_splits.ensures.1 c.in_err-add_splits.was)
    (merge_goes a.lengths.now heads a.lent.now.splits.now a.lent.now.partials.now (room_of (length a.output.now.splits.now)) c.room_of.ensures passed (t.ensures.taken.taken passed)
    (sym k.said) (λ z. partials_in (k.table.bytes z) (k.table.places z)) (merge_refused _ (rw t.ensures.lent.room at c.add_splits.ensures.rows) c.in_err-add_splits.was))

pub give_splits-requires : goal.give_splits-requires
give_splits-requires c =
    let t = c.take_split_columns in
    let n = c.columns.ensures.columns.count in
    let fits = c.add_splits.new.table.fits in
    let m = c.add_splits.ensures.lent.room in
    let size = length c.args.output.now.splits.now in
    (omega (arith, n, m, fits, t.ensures.lent.room, c.room_of.ensures, room_fits size), omega (arith, n, m, fits, t.ensures.lent.room, c.room_of.ensures, room_low size))

pub returns-clause-gives : goal.returns-clause-gives
returns-clause-gives c =
    let a = c.args in
    let t = c.take_split_columns in
    let k = c.in_ok-partials.ensures in
    let heads = sections_in a.heads.now.bytes.now a.heads.now.places.now in
    let passed = sym t.ensures.taken.said ∙ ap meaning c.in_ok-take_split_columns.was in
    merge_goes a.lengths.now heads a.lent.now.splits.now a.lent.now.partials.now (room_of (length a.output.now.splits.now)) c.room_of.ensures passed (t.ensures.taken.taken passed)
    (sym k.said) (λ z. partials_in (k.table.bytes z) (k.table.places z))
    (merge_laid _ (rw t.ensures.lent.room at c.add_splits.ensures.rows) c.in_ok-add_splits.was (rw c.columns.ensures.rows at c.give_splits.ensures.laid))
