-- `elf_file::symbol_strings` meets its contract. Assumes nothing.
use Prim.Native.Nat.{ℕ}
use mathlib.Core.Path.{ap, ap₂, ◌∙◌}
use mathlib.Core.List.{List}
use Rattle.elf.specs.declared.SectionHeader.{SectionHeader}
use Rattle.elf_file.specs.File.{section_bytes, section_of, symbol_table, symbol_strings}
use Rattle.elf_file.proofs.symbol_strings.Goals as goal

pub returns : goal.returns
unfolding symbol_strings
returns c =
    let f = c.args.file.now.bytes.now in
    let t = c.symbol_table-t.ensures.header ∙ ap symbol_table c.header_table-headers.ensures in
    c.section_bytes.ensures
    ∙ ap (λ (h : SectionHeader). section_bytes f h)
    (c.section_of-s.ensures.header ∙ ap (section_of c.header_table-headers.result.now) c.link_of.ensures ∙ ap₂ (λ (l : List ℕ) (h : SectionHeader). section_of l h.link) c.header_table-headers.ensures t)
