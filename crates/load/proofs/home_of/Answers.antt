-- `load::home_of` meets its contract: the sections' part of the column is lent.
-- Assumes nothing.
use Prim.Native.Nat.{ℕ}
use mathlib.Core.Path.{ap, ◌∙◌}
use mathlib.Core.List.{List}
use lib.ListN.{get_or}
use Rattle.obj.specs.Nothing.{no_section}
use Rattle.tables.specs.Records.{sections_in}
use Rattle.load.proofs.home_of.Goals as goal

pub section_or_none-requires : goal.section_or_none-requires
section_or_none-requires c = rw c.part.ensures c.args.before.now.readable.sections

pub returns : goal.returns
returns c =
    c.section_or_none.ensures ∙ ap (λ (l : List ℕ). get_or (sections_in c.args.before.now.file.now l) c.args.k no_section) c.part.ensures
