-- The digits of the address's bytes are its eight, and the byte behind them is the ninth.
use Rattle.std.proofs.Common.{refl, ap, ◌∙◌, List, ℕ, []}
use mathlib.Core.List.{◌∷◌}
use lib.Seq.{sets}
use Rattle.lists.proofs.Stores.{sets_then}
use Rattle.names.specs.Fixed.{codes}
use Rattle.names.specs.GapName.{hex8}
use Rattle.names.proofs.HexDigits.{hexes_eight}
use Rattle.names.proofs.gap_name.put_address.Goals as goal

pub returns : goal.returns
unfolding codes hex8
returns c =
    let a = c.args in
    sets_then a.out.now 8 (hex8 a.address) 16 (95 ∷ []) refl (rw c.to_be_bytes.ensures at c.put_hexes.ensures ∙ ap (λ (l : List ℕ). sets a.out.now 8 l) (hexes_eight a.address)) refl
