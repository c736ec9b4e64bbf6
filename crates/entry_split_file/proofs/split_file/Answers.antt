-- The outputs are still those that were lent.
use Rattle.std.proofs.Common.{sym}
use Rattle.entry_split_file.proofs.split_file.Goals as goal

pub returns : goal.returns
returns c =
    let s = c.with_columns.ensures.lent in
    let e = c.out_ends-1.given.1.1 (sym s.ends) in
    let b = c.out_bytes-1.given.1.1 (sym s.bytes) in
    let p = c.out_splits-1.given.1.1 (sym s.splits) in
    let u = c.out_units-1.given.1.1 (sym s.units) in
    let i = c.pieces-1.given.1.1 (sym s.pieces) in
    let y = c.entries-1.given.1.1 (sym s.entries) in
    let o = c.offsets-1.given.1.1 (sym s.offsets) in
    let n = c.counts-1.given.1.1 (sym s.counts) in
    rw (e, b, p, u, i, y, o, n) c.with_columns.ensures.leaves
