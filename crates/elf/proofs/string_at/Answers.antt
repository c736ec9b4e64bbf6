use Rattle.elf.proofs.Strings.{string_part, string_past}
use Rattle.elf.proofs.string_at.Goals as goal

pub returns-then-table-at : goal.returns-then-table-at
returns-then-table-at c = string_past _ _ c.if-table-at.true

pub returns : goal.returns
returns c = string_part _ _ c.string_length.ensures
