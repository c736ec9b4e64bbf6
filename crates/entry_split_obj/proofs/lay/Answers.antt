-- The records are the first bytes of each table, and zeros come after them; the counts are put into cleared bytes.
use Rattle.std.proofs.Common.{◌∙◌, sym, length, [], ◌∷◌}
use Rattle.outputs.specs.Outputs.{counts_of}
use Rattle.outputs.proofs.Laws.{counts_cleared}
use Rattle.pieces.proofs.Laws.{length-pieces_in, length-symbols_in, length-relocs_in}
use Rattle.entry_split_obj.proofs.lay.Goals as goal

pub returns : goal.returns
returns c =
    let a = c.args in
    let m = a.made in
    let o = c.lay_output.ensures in
    record {
      pieces_are = o.pieces_are;
      symbols_are = o.symbols_are;
      relocs_are = o.relocs_are;
      counted = c.put_counts.ensures
          ∙ counts_cleared a.counts.now (m.pieces ∷ m.symbols ∷ m.relocs ∷ []) c.clear_from.ensures
          ∙ (λ d. counts_of (length a.counts.now) (sym (length-pieces_in a.pieces.now m.pieces) d ∷ sym (length-symbols_in a.entries.now m.symbols) d ∷ sym (length-relocs_in a.offsets.now m.relocs) d ∷ []));
    }
