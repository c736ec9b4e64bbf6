-- `lines::Text::put_hex8`: the digits of the number's bytes are its eight, and fill the buffer of eight bytes.
use Rattle.std.proofs.Common.{ap, ◌∙◌, List, ℕ}
use lib.ListN.{replicate}
use lib.Seq.{sets}
use Rattle.names.proofs.HexDigits.{hexes_eight}
use Rattle.lines.proofs.Puts.{adds_as, eight_over}
use Rattle.lines.proofs.Text.put_hex8.Goals as goal

pub returns : goal.returns
returns c =
    let a = c.args in
    let digits = rw c.to_be_bytes.ensures at c.put_hexes.ensures ∙ ap (λ (l : List ℕ). sets (replicate 8 0) 0 l) (hexes_eight a.v) ∙ eight_over a.v in
    adds_as a.after digits c.put_ended.ensures
