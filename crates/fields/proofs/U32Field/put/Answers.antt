use Rattle.fields.specs.Fields.{enc32}
use Rattle.fields.proofs.Writes.{written_part}
use Rattle.std.proofs.Common.{◌+◌, refl, ◌∙◌}
use Rattle.fields.proofs.U32Field.put.Goals as goal

pub returns : goal.returns
returns c =
    written_part c.args.b.now (enc32 c.args.self) c.args.at (c.args.at + 4) (c.copy_from_slice.ensures.after ∙ c.to_le_bytes.ensures) refl c.requires
