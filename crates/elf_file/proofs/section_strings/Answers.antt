-- `elf_file::section_strings` meets its contract. Assumes nothing.
use Prim.Native.Nat.{ℕ}
use mathlib.Core.List.{List}
use Rattle.elf.specs.declared.Header.{Header}
use mathlib.Core.Path.{ap, ap₂, ◌∙◌}
use Rattle.elf.specs.declared.SectionHeader.{SectionHeader}
use Rattle.elf_file.specs.File.{section_strings, section_bytes, section_of}
use Rattle.elf_file.proofs.section_strings.Goals as goal

pub returns : goal.returns
unfolding section_strings
returns c =
    let f = c.args.file.now.bytes.now in
    c.section_bytes.ensures
    ∙ ap (λ (h : SectionHeader). section_bytes f h) (c.section_of-s.ensures.header ∙ ap (section_of c.header_table.result.now) c.from.ensures ∙ ap₂ (λ (t : List ℕ) (h : Header). section_of t h.shstrndx) c.header_table.ensures c.read_header-h.ensures)
