-- `symbols::for_section` meets its contract: the keys of one section are its symbols.
use mathlib.Core.Path.{◌∙◌}
use Rattle.symbols.proofs.Parts.{whole_section}
use Rattle.symbols.proofs.for_section.Goals as goal

pub returns : goal.returns
returns c = c.part_of.ensures ∙ whole_section _ _ _ c.requires (λ j. (c.type_inv.b j).fits) _ _ c.key_of-low.ensures.is
