-- `lines::Text::put_ended` meets its contract: the text is stored, and the byte behind it.
-- Assumes nothing.
use mathlib.Core.Path.{refl}
use Rattle.lines.proofs.Puts.{put_ended}
use Rattle.lines.proofs.Text.put_ended.Goals as goal

pub returns : goal.returns
returns c =
    record { put = put_ended c.args.self.now.at c.args.field.now c.args.after c.put_bytes.ensures refl c.requires; lent = refl }
