-- `elf_file::bytes_in` meets its contract. Assumes nothing.
use Rattle.elf_file.proofs.Laws.{bytes_none, bytes_there}
use Rattle.elf_file.proofs.bytes_in.Goals as goal

pub returns-then-is_outside : goal.returns-then-is_outside
returns-then-is_outside c = bytes_none _ _ _ c.is_outside.ensures c.if-is_outside.true

pub returns : goal.returns
returns c = bytes_there _ _ _ c.is_outside.ensures c.if-is_outside.false
