-- `elf_file::check_file` meets its contract: each return is one line of the definition, in its order. Assumes nothing.
use mathlib.Core.Path.{ap, ◌∙◌}
use lib.ListN.{length}
use Rattle.obj.specs.Answers.{meaning}
use Rattle.elf.specs.declared.SectionHeader.{SectionHeader}
use Rattle.elf_file.specs.File.{section_bytes, symbol_table, header_wrong, headers_cut, sections_cut, names_cut, symbol_table_cut}
use Rattle.elf_file.proofs.Laws.{asked, asked_both, file_short, file_wrong, file_headers, file_sections, file_symbols, file_names, file_good}
use Rattle.elf_file.proofs.check_file.Goals as goal

pub returns-then-file-lt52 : goal.returns-then-file-lt52
returns-then-file-lt52 c = ap meaning c.refuse.ensures ∙ file_short _ c.if-file-lt52.true

pub returns-then-header_wrong : goal.returns-then-header_wrong
returns-then-header_wrong c =
    ap meaning c.refuse-then-header_wrong.ensures
    ∙ file_wrong _ c.if-file-lt52.false
    (asked header_wrong c.header_wrong.ensures c.read_header-h.ensures c.if-header_wrong.true)

pub returns-then-headers_cut : goal.returns-then-headers_cut
returns-then-headers_cut c =
    let f = c.args.file.now in
    ap meaning c.refuse-then-headers_cut.ensures
    ∙ file_headers _ c.if-file-lt52.false
    (asked header_wrong c.header_wrong.ensures c.read_header-h.ensures c.if-header_wrong.false)
    (asked (headers_cut (length f)) c.headers_cut.ensures c.read_header-h.ensures c.if-headers_cut.true)

pub returns-then-sections_cut : goal.returns-then-sections_cut
returns-then-sections_cut c =
    let f = c.args.file.now in
    ap meaning c.refuse-then-sections_cut.ensures
    ∙ file_sections _ c.if-file-lt52.false
    (asked header_wrong c.header_wrong.ensures c.read_header-h.ensures c.if-header_wrong.false)
    (asked (headers_cut (length f)) c.headers_cut.ensures c.read_header-h.ensures c.if-headers_cut.false)
    (asked_both (sections_cut (length f)) c.sections_cut.ensures c.header_table-headers.ensures c.section_strings.ensures c.if-sections_cut.true)

pub returns-then-symbol_table_cut : goal.returns-then-symbol_table_cut
returns-then-symbol_table_cut c =
    let f = c.args.file.now in
    let table = c.symbol_table-t.ensures.header ∙ ap symbol_table c.header_table-headers.ensures in
    ap meaning c.refuse-then-symbol_table_cut.ensures
    ∙ file_symbols _ c.if-file-lt52.false
    (asked header_wrong c.header_wrong.ensures c.read_header-h.ensures c.if-header_wrong.false)
    (asked (headers_cut (length f)) c.headers_cut.ensures c.read_header-h.ensures c.if-headers_cut.false)
    (asked_both (sections_cut (length f)) c.sections_cut.ensures c.header_table-headers.ensures c.section_strings.ensures c.if-sections_cut.false)
    (asked (symbol_table_cut (length f)) c.symbol_table_cut.ensures table c.if-symbol_table_cut.true)

pub returns-then-names_cut : goal.returns-then-names_cut
returns-then-names_cut c =
    let f = c.args.file.now in
    let table = c.symbol_table-t.ensures.header ∙ ap symbol_table c.header_table-headers.ensures in
    ap meaning c.refuse-then-names_cut.ensures
    ∙ file_names _ c.if-file-lt52.false
    (asked header_wrong c.header_wrong.ensures c.read_header-h.ensures c.if-header_wrong.false)
    (asked (headers_cut (length f)) c.headers_cut.ensures c.read_header-h.ensures c.if-headers_cut.false)
    (asked_both (sections_cut (length f)) c.sections_cut.ensures c.header_table-headers.ensures c.section_strings.ensures c.if-sections_cut.false)
    (asked (symbol_table_cut (length f)) c.symbol_table_cut.ensures table c.if-symbol_table_cut.false)
    (asked_both names_cut c.names_cut.ensures (c.section_bytes.ensures ∙ ap (λ (h : SectionHeader). section_bytes f h) table) c.symbol_strings.ensures c.if-names_cut.true)

pub returns : goal.returns
returns c =
    let f = c.args.file.now in
    let table = c.symbol_table-t.ensures.header ∙ ap symbol_table c.header_table-headers.ensures in
    file_good _ c.if-file-lt52.false
    (asked header_wrong c.header_wrong.ensures c.read_header-h.ensures c.if-header_wrong.false)
    (asked (headers_cut (length f)) c.headers_cut.ensures c.read_header-h.ensures c.if-headers_cut.false)
    (asked_both (sections_cut (length f)) c.sections_cut.ensures c.header_table-headers.ensures c.section_strings.ensures c.if-sections_cut.false)
    (asked (symbol_table_cut (length f)) c.symbol_table_cut.ensures table c.if-symbol_table_cut.false)
    (asked_both names_cut c.names_cut.ensures (c.section_bytes.ensures ∙ ap (λ (h : SectionHeader). section_bytes f h) table) c.symbol_strings.ensures c.if-names_cut.false)
