-- `elf_file::headers_cut` meets its contract. Assumes nothing.
use Rattle.elf_file.specs.File.{headers_cut}
use Rattle.elf_file.proofs.headers_cut.Goals as goal

pub returns : goal.returns
unfolding headers_cut
returns c = rw (c.is_outside.ensures, c.from.ensures)
