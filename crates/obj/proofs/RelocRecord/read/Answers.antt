-- `Reloc::read` meets its contract: each field is read at the offset that the definition gives it.
use mathlib.Core.Path.{◌∙◌}
use mir.ValLaws.{to_z-of_z}
use mir.Syntax.{w64}
use Rattle.obj.proofs.Made.{reloc_made}
use Rattle.obj.proofs.RelocRecord.read.Goals as goal

pub returns : goal.returns
returns c =
    reloc_made _ _ c.get.ensures c.get-2.ensures c.get-3.ensures (to_z-of_z w64 c.get-4.result (record { sfits = c.get-4.type_inv }) ∙ c.get-4.ensures) c.get-5.ensures
