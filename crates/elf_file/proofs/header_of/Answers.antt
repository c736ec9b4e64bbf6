-- `elf_file::header_of` meets its contract: entries of 40 bytes lie one after another. Assumes nothing.
use Rattle.elf_file.specs.File.{header_of}
use Rattle.elf_file.proofs.header_of.Goals as goal

pub returns : goal.returns
unfolding header_of
returns c = c.record_in.ensures
