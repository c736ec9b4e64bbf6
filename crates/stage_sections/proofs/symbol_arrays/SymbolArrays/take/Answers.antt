-- `SymbolArrays::take` meets its contract: of a table that passed the arrays hold the places and the order. Assumes nothing.
use mathlib.Core.Path.{refl}
use Rattle.obj.proofs.Errors.{is_err}
use Rattle.stage_sections.proofs.symbol_arrays.SymbolArrays.take.Goals as goal

pub returns-in_err-ordered : goal.returns-in_err-ordered
returns-in_err-ordered c = rw (is_err _ c.from_residual.ensures.1) (record { said = c.in_err-ordered.ensures.said; asked = tt })

pub returns : goal.returns
returns c =
    let k = c.in_ok-ordered.ensures in
    record { said = k.said; asked = record { names = refl; heads = refl; symbols = k.symbols.table; order = k.symbols.order } }
