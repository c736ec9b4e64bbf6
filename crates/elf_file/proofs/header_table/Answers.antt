-- `elf_file::header_table` meets its contract. Assumes nothing.
use Prim.Native.Nat.{ℕ, ◌*◌}
use mathlib.Core.Path.{ap, ◌∙◌}
use Rattle.elf.specs.declared.Header.{Header}
use Rattle.elf_file.specs.File.{bytes_in, header_table}
use Rattle.elf_file.proofs.header_table.Goals as goal

pub returns : goal.returns
unfolding header_table
returns c =
    c.bytes_in.ensures
    ∙ ap (λ (n : ℕ). bytes_in c.args.file.now.bytes.now c.read_header-h.result.shoff (40 * n)) c.from.ensures
    ∙ ap (λ (h : Header). bytes_in c.args.file.now.bytes.now h.shoff (40 * h.shnum)) c.read_header-h.ensures
