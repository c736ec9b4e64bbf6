-- `elf_file::section_cut` meets its contract: the code joins the definition's tests in its order. Assumes nothing.
use Rattle.lists.specs.Rows.{any_of}
use Rattle.elf_file.specs.File.{section_cut}
use Rattle.elf_file.proofs.Laws.{not_ended}
use Rattle.elf_file.proofs.section_cut.Goals as goal

pub returns : goal.returns
unfolding section_cut any_of
returns c =
    rw (c.is_outside.ensures, c.is_allocated.ensures, not_ended _ _ c.args.h.name c.requires)
