-- `symbols::has_symbols` meets its contract: a section has a symbol exactly if its list has one.
use mathlib.Core.Path.{ap, ◌∙◌}
use mathlib.Core.List.{List}
use Prim.Native.Nat.{ℕ}
use mathlib.Core.Bool.{not}
use lib.Dec.{eqb}
use lib.ListN.{length}
use Rattle.symbols.proofs.Parts.{has_some}
use Rattle.symbols.proofs.has_symbols.Goals as goal

pub returns : goal.returns
returns c = ap (λ (l : List ℕ). not (eqb (length l) 0)) c.for_section-part.ensures ∙ has_some _ _ _
