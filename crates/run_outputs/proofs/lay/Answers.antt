-- `run_outputs::lay` meets its contract: each table is laid by itself, and the counts are those of what is kept.
-- Assumes nothing.
use mathlib.Core.Path.{sym, ap, ◌∙◌}
use Prim.Native.Nat.{◌*◌}
use lib.ListN.{length}
use Rattle.outputs.specs.Outputs.{counts_of}
use Rattle.splits.specs.Table.{columns_of}
use Rattle.stage_walk.proofs.Room.{cleared}
use Rattle.run_outputs.specs.Outputs.{beside_of}
use Rattle.run_outputs.proofs.Laws.{kept-listed}
use Rattle.run_outputs.proofs.lay.Goals as goal

pub returns-clause-laid : goal.returns-clause-laid
returns-clause-laid c =
    let a = c.args in
    let q = c.requires.0 in
    let k = a.k in
    let o = a.outputs.now in
    let lent = c.lay_names.ensures.lent in
    let ends = c.outputs-2-1.given.1 (sym lent.ends) in
    let bytes = c.outputs-1.given.1 (sym lent.bytes) in
    let names = c.lay_names.ensures.laid in
    let output = c.lay_output.ensures in
    let s = c.first.ensures in
    record {
      ends_are = rw ends names.0;
      bytes_are = rw bytes names.1;
      splits_are = rw (s.columns.starts, s.columns.ends, s.columns.units, s.columns.rest, s.count) at c.put_splits.ensures;
      units_are = c.clear_from.ensures ∙ cleared o.units.now _ (8 * k.units) (sym q.units_there.written) q.units_there.fit;
      pieces_are = output.pieces_are;
      symbols_are = output.symbols_are;
      relocs_are = output.relocs_are;
      counted = c.lay_counts.ensures
          ∙ ap (counts_of (length o.counts.now)) (kept-listed (beside_of a.added.now) (columns_of a.splits.now) o.units.now o.pieces.now o.entries.now o.offsets.now k q.names.sum);
    }
