-- `run_outputs::lay_names` meets its contract: the names are put at the front, and zeros after them.
-- Assumes nothing.
use mathlib.Core.Path.{sym}
use native.Mathlib.Omega.{arith}
use Rattle.gap_splits.specs.Added.{added, beside}
use Rattle.names.proofs.Laws.{length-names}
use Rattle.stage_gaps.proofs.Laws.{flat_bytes}
use Rattle.run_outputs.proofs.Laws.{ends_laid, bytes_laid}
use Rattle.run_outputs.proofs.lay_names.Goals as goal

pub first_names-requires : goal.first_names-requires
first_names-requires c = c.requires.0.packed.named

pub put_names-requires : goal.put_names-requires
put_names-requires c =
    let a = c.args in
    let q = c.requires in
    let first = c.first_names.ensures in
    let long = flat_bytes (added (beside a.added.now.bytes.now a.added.now.places.now a.added.now.lengths.now) a.names) in
    (first.named, omega (arith, q.1, first.count), rw first.names (omega (arith, long, q.0.sum, q.0.short)), rw first.names (omega (arith, long, q.0.sum, q.0.low)))

pub returns-clause-laid : goal.returns-clause-laid
returns-clause-laid c =
    let a = c.args in
    let q = c.requires in
    let names = added (beside a.added.now.bytes.now a.added.now.places.now a.added.now.lengths.now) a.names in
    let put = rw c.first_names.ensures.names at c.put_names.ensures.put in
    let count = length-names a.added.now.bytes.now a.added.now.places.now a.added.now.lengths.now a.names in (
      ends_laid names a.output.now.ends.now a.output.now.bytes.now _ _ put (sym count) q.1 c.clear_from.ensures,
      bytes_laid names a.output.now.ends.now a.output.now.bytes.now _ _ put q.0.sum q.0.short c.clear_from-2.ensures,
    )
