use Rattle.fields.specs.Fields.{enc64}
use Rattle.fields.proofs.Writes.{written_part}
use Rattle.fields.proofs.Laws.{enc64_bytes}
use Rattle.std.proofs.Common.{◌+◌, refl, ◌∙◌}
use Rattle.fields.proofs.U64Field.put.Goals as goal

pub returns : goal.returns
returns c =
    written_part c.args.b.now (enc64 c.args.self) c.args.at (c.args.at + 8) (c.copy_from_slice.ensures.after ∙ c.to_le_bytes.ensures ∙ enc64_bytes c.args.self) refl c.requires
