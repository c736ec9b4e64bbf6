-- `elf_file::header_wrong` meets its contract: the code joins the definition's tests in its order. Assumes nothing.
use mathlib.Core.Path.{refl}
use Rattle.lists.specs.Rows.{any_of}
use Rattle.elf_file.specs.File.{header_wrong}
use Rattle.elf_file.proofs.header_wrong.Goals as goal

pub returns : goal.returns
unfolding header_wrong any_of
returns c = refl
