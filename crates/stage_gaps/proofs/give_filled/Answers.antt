-- Both tables that the filling left are given.
use Rattle.std.proofs.Common.{arith, length, sym, ◌∙◌, ◌<◌}
use Rattle.names.proofs.Laws.{length-names}
use Rattle.names.specs.Listed.{names_in}
use Rattle.outputs.proofs.Laws.{counts_cleared}
use Rattle.stage_gaps.proofs.Laws.{names_fit, names_few, bytes_few, filled_laid}
use Rattle.stage_gaps.proofs.give_filled.Goals as goal

pub first_names-more-requires : goal.first_names-more-requires
first_names-more-requires c = let e = c.names.ensures in rw (e.bytes, e.places, e.lengths) c.args.added.now.stand.packed.named

pub give_names-bytes-requires : goal.give_names-bytes-requires
give_names-bytes-requires c =
    let a = c.args in
    let q = c.requires in
    let e = c.names.ensures in
    let more = rw (e.bytes, e.places, e.lengths) at c.first_names-more.ensures.names in
    (q.0, c.first_names-more.ensures.named, rw more (names_fit (names_in a.names.now) a.added.now q.1))

pub overflow_cast-count : goal.overflow_cast-count
overflow_cast-count c =
    let n = c.args.names.now in
    omega (arith, names_few (names_in n) c.args.added.now c.requires.1 (length-names n.bytes.now n.places.now n.lengths.now (length n.places.now)))

pub overflow_cast-bytes : goal.overflow_cast-bytes
overflow_cast-bytes c =
    let e = c.names.ensures in
    let more = rw (e.bytes, e.places, e.lengths) at c.first_names-more.ensures.names in
    let short : c.give_names-bytes.result < 65536 = bytes_few (names_in c.args.names.now) c.args.added.now c.requires.1 (rw more at c.give_names-bytes.ensures.given) in
    omega (arith, short)

pub returns-clause-laid : goal.returns-clause-laid
returns-clause-laid c =
    let a = c.args in
    let n = a.names.now in
    let e = c.names.ensures in
    let more = rw (e.bytes, e.places, e.lengths) at c.first_names-more.ensures.names in
    let given = rw more at c.give_names-bytes.ensures.given in
    let lent = c.give_names-bytes.ensures.lent in
    let ends = c.outputs-2-1.given.1 (sym lent.ends) in
    let bytes = c.outputs-1.given.1 (sym lent.bytes) in
    rw (ends, bytes) (filled_laid (names_in n) a.added.now a.splits.now given c.put_splits.ensures (length-names n.bytes.now n.places.now n.lengths.now (length n.places.now)) (c.put_counts.ensures ∙ counts_cleared _ _ c.clear_from.ensures))
