-- `entry_toposort::sort_columns`: what the sort leaves at the front of the lent table is what is written out.
use native.Mathlib.Omega.{arith}
use mathlib.Core.Path.{refl}
use Rattle.toposort.proofs.Sorting.{sorts_in}
use Rattle.entry_toposort.proofs.Laws.{sorted_ends}
use Prim.Native.Nat.{ℕ}
use lib.ListN.{length, length-take}
use Rattle.outputs.proofs.Room.{room_low, room_fits}
use Rattle.entry_toposort.proofs.sort_columns.Goals as goal

pub slice_bounds-toposort-end : goal.slice_bounds-toposort-end
slice_bounds-toposort-end c = omega (arith, c.room_for-room.ensures, room_low 1024 2 (length c.args.out.now))

pub slice_bounds-toposort-end-2 : goal.slice_bounds-toposort-end-2
slice_bounds-toposort-end-2 c = omega (arith, c.room_for-room.ensures, room_low 1024 2 (length c.args.out.now), length-take {A = ℕ})

pub put_halves-requires : goal.put_halves-requires
put_halves-requires c =
    let size = length c.args.out.now in
    omega (arith, length-take {A = ℕ}, c.kept-m.ensures, c.toposort-r.ensures.room, c.room_for-room.ensures, room_fits 1024 2 size)

pub returns : goal.returns
returns c =
    let s = sorts_in _ c.room_for-room.result c.args.table.now (omega (arith, c.room_for-room.ensures, room_low 1024 2 (length c.args.out.now))) c.toposort-r.ensures in
    sorted_ends _ _ _ _ _ _ _ _ _ c.requires.nodes c.room_for-room.ensures refl s c.kept-m.ensures c.put_halves.ensures
