-- `stage_names::give_names` meets its contract: the names of the tables are put first, those that were added behind them, and zeros after both.
-- Assumes nothing.
use mathlib.Core.Path.{sym}
use native.Mathlib.Omega.{arith}
use lib.ListN.{length}
use Rattle.names.specs.Names.{names_of}
use Rattle.names.proofs.Laws.{length-names}
use Rattle.stage_names.proofs.Fits.{given-names}
use Rattle.stage_names.proofs.give_names.Goals as goal

pub put_names-end-requires : goal.put_names-end-requires
put_names-end-requires c =
    let a = c.args in
    let q = c.requires in
    let e = length-names a.table_names.now.bytes.now a.table_names.now.places.now a.table_names.now.lengths.now (length a.table_names.now.places.now) in
    let f = length-names a.added.now.bytes.now a.added.now.places.now a.added.now.lengths.now (length a.added.now.places.now) in
    (q.0, omega (arith, q.2.long_ends, e), omega (arith, q.2.long_bytes), omega (arith, q.2.short))

pub put_names-last-requires : goal.put_names-last-requires
put_names-last-requires c =
    let a = c.args in
    let q = c.requires in
    let e = length-names a.table_names.now.bytes.now a.table_names.now.places.now a.table_names.now.lengths.now (length a.table_names.now.places.now) in
    let f = length-names a.added.now.bytes.now a.added.now.places.now a.added.now.lengths.now (length a.added.now.places.now) in
    let o = c.put_names-end in
    let r = o.ensures.put.last in
    (q.1, omega (arith, q.2.long_ends, e, f, o.ensures.lent.ends_size), omega (arith, q.2.long_bytes, r, o.ensures.lent.bytes_size), omega (arith, q.2.short, r))

pub returns-clause-given : goal.returns-clause-given
returns-clause-given c =
    let a = c.args in
    let q = c.requires in
    let e = length-names a.table_names.now.bytes.now a.table_names.now.places.now a.table_names.now.lengths.now (length a.table_names.now.places.now) in
    let f = length-names a.added.now.bytes.now a.added.now.places.now a.added.now.lengths.now (length a.added.now.places.now) in
    given-names (names_of a.table_names.now.bytes.now a.table_names.now.places.now a.table_names.now.lengths.now (length a.table_names.now.places.now)) (names_of a.added.now.bytes.now a.added.now.places.now a.added.now.lengths.now (length a.added.now.places.now)) a.output.now.ends.now a.output.now.bytes.now q.2
    (sym e) (sym f) c.put_names-end.ensures.put c.put_names-last.ensures.put c.clear_from.ensures c.clear_from-2.ensures
