-- The records are the first bytes of each table, and zeros come after them.
use mathlib.Core.Path.{◌∙◌}
use Prim.Native.Nat.{◌*◌}
use Rattle.pieces.proofs.Laws.{pieces_packed, symbols_packed, relocs_packed}
use Rattle.stage_walk.proofs.Room.{cleared}
use Rattle.pieces.specs.Pieces.{piece_width}
use Rattle.stage_walk.proofs.lay_output.Goals as goal

pub returns : goal.returns
returns c =
    let a = c.args in
    let q = c.requires in
    let m = a.made in
    record {
      pieces_are = c.clear_from.ensures ∙ cleared a.pieces.now _ (piece_width * m.pieces) (pieces_packed a.pieces.now (λ i. (c.slice_known-1.given i).fits) m.pieces q.pieces_fit) q.pieces_fit;
      symbols_are = c.clear_from-2.ensures ∙ cleared a.entries.now _ (12 * m.symbols) (symbols_packed a.entries.now (λ i. (c.slice_known-2-1.given i).fits) m.symbols q.symbols_fit) q.symbols_fit;
      relocs_are = c.clear_from-3.ensures ∙ cleared a.offsets.now _ (8 * m.relocs) (relocs_packed a.offsets.now (λ i. (c.slice_known-3-1.given i).fits) m.relocs q.relocs_fit) q.relocs_fit;
    }
