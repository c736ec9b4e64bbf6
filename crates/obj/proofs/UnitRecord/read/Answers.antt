-- `Unit::read` meets its contract: each field is read at the offset that the definition gives it.
use mathlib.Core.Path.{◌∙◌}
use mir.ValLaws.{to_z-of_z}
use mir.Syntax.{w32}
use Rattle.obj.proofs.Made.{unit_made}
use Rattle.obj.proofs.UnitRecord.read.Goals as goal

pub returns : goal.returns
returns c =
    unit_made _ _ c.get.ensures
    (to_z-of_z w32 c.get-2.result (record { sfits = c.get-2.type_inv }) ∙ c.get-2.ensures)
