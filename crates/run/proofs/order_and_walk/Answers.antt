-- A refusal before is handed on; an order that was found is walked; a cycle, and a refusal, are the answer.
use Prim.Native.Nat.{◌/◌}
use mathlib.Core.List.{[]}
use lib.ListN.{length}
use Rattle.obj.proofs.Errors.{is_err}
use Rattle.splits.specs.Table.{columns_of}
use Rattle.link_graph.specs.Columns.{Splits}
use Rattle.loaded.proofs.Laws.{few_units}
use Rattle.run.specs.Answers.{walked_tables}
use Rattle.run.specs.Outputs.{room_lent}
use Rattle.run.proofs.Linking.{splits_held, units_whole, rows_below, records_below}
use Rattle.run.proofs.Answering.{unlinked_right, order_whole, order_named, refused_right, made_right, refused_before, entered_before}
use Rattle.run.proofs.order_and_walk.Goals as goal

pub returns-in_err-filled-clause-run : goal.returns-in_err-filled-clause-run
returns-in_err-filled-clause-run c =
    let a = c.args in
    let t = walked_tables a.loaded.now in
    let out = a.out.now in
    let table = columns_of a.splits.now in
    rw (is_err _ c.from_residual.ensures.1) (refused_before a.loaded.now.file.now t (room_lent out) table a.names a.used a.splits.now.count out.units.now out.pieces.now out.entries.now out.offsets.now (length out.units.now / 8) a.filled c.in_err-filled.was)

pub invariant_of-ordered : goal.invariant_of-ordered
invariant_of-ordered c =
    let a = c.args in
    let q = c.requires in
    let h = c.heads.result in
    let n = c.names.result in
    let held : Splits (columns_of a.splits.now) a.splits.now.count h.bytes.now h.places.now n.bytes.now n.places.now n.lengths.now =
    rw (c.heads.ensures, c.names.ensures) (splits_held q.0.usable _ _ (q.1 c.in_ok-filled.was))
    in
    record { held = held; whole = units_whole q.0.usable; few_units = few_units q.0.usable }

pub ordered-linked-requires : goal.ordered-linked-requires
ordered-linked-requires c =
    let q = c.requires in
    record { splits = rows_below q.0.usable _ _ (q.1 c.in_ok-filled.was); records = records_below q.0.usable }

pub walk_lent-requires : goal.walk_lent-requires
walk_lent-requires c =
    let a = c.args in
    let q = c.requires in
    let t = walked_tables a.loaded.now in
    let out = a.out.now in
    let table = columns_of a.splits.now in
    let w = q.1 c.in_ok-filled.was in
    let o = c.ordered-linked in
    let linked = rw (c.heads.ensures, c.names.ensures) at o.ensures in
    let is = c.in_ok-k.was in
    (q.0, w, order_whole a.loaded.now.file.now t (room_lent out) table a.names a.used a.splits.now.count o.new.out [] [] [] q.0.usable w (length out.units.now) linked _ is, order_named a.loaded.now.file.now t (room_lent out) table a.names a.used a.splits.now.count o.new.out [] [] [] q.0.usable w (length out.units.now) linked _ is)

pub returns-in_err-k-clause-run : goal.returns-in_err-k-clause-run
returns-in_err-k-clause-run c =
    let r = c.from_residual-in_err-k in
    let a = c.args in
    let q = c.requires in
    let t = walked_tables a.loaded.now in
    let out = a.out.now in
    let table = columns_of a.splits.now in
    let w = q.1 c.in_ok-filled.was in
    let o = c.ordered-linked in
    let linked = rw (c.heads.ensures, c.names.ensures) at o.ensures in
    rw (is_err _ r.ensures.1)
    (entered_before a.loaded.now.file.now t (room_lent out) table a.names a.used a.splits.now.count o.new.out out.pieces.now out.entries.now out.offsets.now (length out.units.now / 8) a.filled c.in_ok-filled.was
    (unlinked_right a.loaded.now.file.now t (room_lent out) table a.names a.used a.splits.now.count o.new.out out.pieces.now out.entries.now out.offsets.now q.0.usable w (length out.units.now) linked _ c.in_err-k.was))

pub returns-in_err-made-clause-run : goal.returns-in_err-made-clause-run
returns-in_err-made-clause-run c =
    let r = c.from_residual-in_err-made in
    let a = c.args in
    let q = c.requires in
    let t = walked_tables a.loaded.now in
    let out = a.out.now in
    let table = columns_of a.splits.now in
    let w = q.1 c.in_ok-filled.was in
    let o = c.ordered-linked in
    let linked = rw (c.heads.ensures, c.names.ensures) at o.ensures in
    let n = c.walk_lent.new.out in
    rw (is_err _ r.ensures.1)
    (entered_before a.loaded.now.file.now t (room_lent out) table a.names a.used a.splits.now.count o.new.out n.pieces.now n.entries.now n.offsets.now (length out.units.now / 8) a.filled c.in_ok-filled.was
    (refused_right a.loaded.now.file.now t (room_lent out) table a.names a.used a.splits.now.count o.new.out n.pieces.now n.entries.now n.offsets.now q.0.usable w (length out.units.now) linked _ c.in_ok-k.was _ c.in_err-made.ensures.gives))

pub returns-clause-run : goal.returns-clause-run
returns-clause-run c =
    let a = c.args in
    let q = c.requires in
    let t = walked_tables a.loaded.now in
    let out = a.out.now in
    let table = columns_of a.splits.now in
    let w = q.1 c.in_ok-filled.was in
    let o = c.ordered-linked in
    let linked = rw (c.heads.ensures, c.names.ensures) at o.ensures in
    let n = c.walk_lent.new.out in
    rw c.in_ok-made.ensures.units
    (entered_before a.loaded.now.file.now t (room_lent out) table a.names a.used a.splits.now.count o.new.out n.pieces.now n.entries.now n.offsets.now (length out.units.now / 8) a.filled c.in_ok-filled.was
    (made_right a.loaded.now.file.now t (room_lent out) table a.names a.used a.splits.now.count o.new.out n.pieces.now n.entries.now n.offsets.now q.0.usable w (length out.units.now) linked _ c.in_ok-k.was _ c.in_ok-made.ensures.gives))
