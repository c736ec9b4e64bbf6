-- What the run's answer keeps is laid into the outputs.
use Prim.Native.Nat.{ℕ, ◌*◌, ◌/◌, ◌≤◌}
use mathlib.Core.Path.{◌≡◌, sym, ap, ◌∙◌}
use native.Mathlib.Omega.{arith}
use lib.ListN.{length}
use Rattle.obj.specs.Records.{split_width}
use Rattle.stage_splits.specs.StageSplits.{room_of}
use Rattle.stage_splits.proofs.Laws.{room_low, room_fits}
use Rattle.run.specs.Run.{run_of}
use Rattle.stage_walk.specs.Room.{room_in}
use Rattle.run_file.specs.RunFile.{rooms_in}
use Rattle.run_outputs.specs.Outputs.{sizes_in}
use Rattle.run.specs.declared.Ran.{Ran}
use Rattle.entry_split_file.proofs.Finish.{kept-fits, kept_few, leaves, same_sizes, fits_as}
use Rattle.entry_split_file.proofs.in_columns.Goals as goal

-- the table's rows are those of the split output
fits : (room size : ℕ) → room ≡ room_of size → (room ≤ 1024) × (split_width * room ≤ size)
fits room size e = (omega (arith, e, room_low size), omega (arith, e, room_fits size))

pub invariant_of-table : goal.invariant_of-table
invariant_of-table c =
    let a = c.args in
    let f = c.run_file-r in
    let o = a.outputs.now in
    let room = fits a.table.now.room (length o.splits.now) c.requires.1 in
    let few = kept_few _ _ (sizes_in o) a.table.now.room room.0 room.1 f.result.ran f.ensures.run.holds in
    record { long = f.new.table.long; fits = omega (arith, few, f.ensures.table.room, ap (λ (k : Ran). k.splits) c.kept_of-kept.ensures) }

pub lay-requires : goal.lay-requires
lay-requires c =
    let a = c.args in
    let f = c.run_file-r in
    let o = a.outputs.now in
    let l = f.ensures.lent in
    let room = fits a.table.now.room (length o.splits.now) c.requires.1 in
    let n = c.names.ensures in
    let s = c.columns.ensures.columns in
    let u = c.outputs-4-1.given.1 (sym l.units) in
    let p = c.outputs-3-1.given.1 (sym l.pieces) in
    let y = c.outputs-2-1.given.1 (sym l.entries) in
    let x = c.outputs-1.given.1 (sym l.offsets) in (
      rw (u, p, y, x, n.bytes, n.places, n.lengths)
          (fits_as (kept-fits _ _ (sizes_in o) a.table.now.room room.0 room.1 f.result.ran f.ensures.run.holds) c.kept_of-kept.ensures
          (same_sizes (length o.ends.now) (length o.bytes.now) (length o.splits.now) (length o.counts.now) l.units_size l.pieces_size l.entries_size l.offsets_size)),
      omega (arith, s.count),
    )

pub returns-clause-leaves : goal.returns-clause-leaves
returns-clause-leaves c =
    let a = c.args in
    let f = c.run_file-r in
    let o = a.outputs.now in
    let l = f.ensures.lent in
    let n = c.names.ensures in
    let s = c.columns.ensures.columns in
    let u = c.outputs-4-1.given.1 (sym l.units) in
    let p = c.outputs-3-1.given.1 (sym l.pieces) in
    let y = c.outputs-2-1.given.1 (sym l.entries) in
    let x = c.outputs-1.given.1 (sym l.offsets) in
    leaves _ _ _ _ _ _ f.result.ran _ _ _ _ _ _ _ _
    (f.ensures.run.is ∙ ap (λ (n : ℕ). run_of a.file.now (rooms_in a.file.now (length o.ends.now / 2) (length o.bytes.now) n (length o.units.now / 8) (room_in (length o.pieces.now) (length o.entries.now) (length o.offsets.now)))) c.requires.1)
    c.kept_of-kept.ensures
    (same_sizes (length o.ends.now) (length o.bytes.now) (length o.splits.now) (length o.counts.now) l.units_size l.pieces_size l.entries_size l.offsets_size)
    c.word_for.ensures (rw (u, p, y, x, n.bytes, n.places, n.lengths, s.starts, s.ends, s.units, s.rest) at c.lay.ensures.laid)
