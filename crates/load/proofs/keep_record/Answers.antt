-- `load::keep_record` meets its contract: its length and kind as they were read.
-- Assumes nothing.
use native.Mathlib.Omega.{arith}
use Rattle.load.specs.Columns.{tables_in}
use Rattle.load.proofs.Numbers.{record_passed, record_read}
use Rattle.load.proofs.keep_record.Goals as goal

pub get-len-requires : goal.get-len-requires
get-len-requires c =
    let a = c.args in
    omega (arith, (record_passed a.columns.now.most a.columns.now.file.now a.at (tables_in a.columns.now.counts a.columns.now.places.now a.columns.now.lengths.now) c.requires.1).head)

pub overflow_add-at : goal.overflow_add-at
overflow_add-at c =
    let a = c.args in
    omega (arith, (record_passed a.columns.now.most a.columns.now.file.now a.at (tables_in a.columns.now.counts a.columns.now.places.now a.columns.now.lengths.now) c.requires.1).head, c.requires.0.tabled.small)

pub keep_kind-requires : goal.keep_kind-requires
keep_kind-requires c =
    let a = c.args in
    let p = record_read a.columns.now.most a.columns.now.file.now a.at (tables_in a.columns.now.counts a.columns.now.places.now a.columns.now.lengths.now) c.requires.1 c.get-len.ensures c.requires.2 in
    (p.0, c.requires.0, p.1)
