-- The names of the sections are entered into an empty table, and those of the symbols behind them.
use Rattle.std.proofs.Common.{◌∙◌, [], sym, ap}
use Rattle.obj.proofs.Errors.{is_err}
use Rattle.elf.specs.declared.SectionHeader.{SectionHeader}
use Rattle.elf_file.specs.File.{section_bytes, symbol_table}
use Rattle.elf_names.specs.Names.{symbol_names}
use Rattle.number_names.specs.Numbers.{enter_names}
use Rattle.number_names.specs.Tables.{room_of}
use Rattle.number_names.proofs.Laws.{entered_as, same_then}
use Rattle.import_names.proofs.Laws.{read_sections, names_stop, names_go, short_as}
use Rattle.import_names.proofs.number_in.Goals as goal

pub returns-in_err-enter_sections : goal.returns-in_err-enter_sections
returns-in_err-enter_sections c = (
  c.in_err-enter_sections.ensures.0,
  λ ends₀ bytes₀ h.
      let a = c.args in
      let e = c.in_err-enter_sections.ensures.1 [] ends₀ bytes₀ h in
      let said = read_sections a.file.now.bytes.now (room_of a.names.now) c.header_table-headers.ensures c.section_strings.ensures in
      rw (is_err _ c.from_residual.ensures.1) (short_as (e.is ∙ names_stop a.file.now.bytes.now (room_of a.names.now) (sym said ∙ e.is)) e),
)

pub returns : goal.returns
returns c =
    let s = c.in_ok-enter_sections.ensures in (
      same_then c.enter_symbols.ensures.0 s.0,
      λ ends₀ bytes₀ h.
          let a = c.args in
          let file = a.file.now.bytes.now in
          let e = s.1 [] ends₀ bytes₀ h in
          let said = read_sections file (room_of a.names.now) c.header_table-headers.ensures c.section_strings.ensures in
          let t = c.symbol_table.ensures.header ∙ ap symbol_table c.header_table-headers.ensures in
          let table = c.section_bytes-table.ensures ∙ ap (λ (h : SectionHeader). section_bytes file h) t in
          let l = c.enter_symbols.new.names in
          entered_as ends₀ bytes₀ l.ends.now l.bytes.now l.heads.now l.chain.now l.count c.enter_symbols.result
          ((λ z. enter_names (s.0.room z) e.names (symbol_names (table z) (c.symbol_strings.ensures z))) ∙ names_go file _ e.names (sym said ∙ e.is))
          (c.enter_symbols.ensures.1 e.names ends₀ bytes₀ e.held),
    )
