-- `symbols::for_section_through` meets its contract: the keys of one section with addresses in start..=end.
use mathlib.Core.Path.{◌∙◌}
use native.Mathlib.Omega.{arith}
use Rattle.symbols.proofs.Parts.{through_part}
use Rattle.symbols.proofs.for_section_through.Goals as goal

pub returns : goal.returns
returns c =
    c.part_of.ensures
    ∙ through_part _ _ _ c.requires (λ j. (c.type_inv.b j).fits) _ _ _ _ (omega arith) c.key_of-high.ensures.is _ (omega arith) c.key_of-low.ensures.is
