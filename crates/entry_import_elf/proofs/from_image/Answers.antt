-- Sections that are refused are the answer; else the symbols are asked over them.
use Rattle.std.proofs.Common.{ℕ, ◌∙◌, List, refl, sym, ap, length}
use Rattle.obj.proofs.Errors.{is_err}
use Rattle.tables.specs.Records.{sections_in}
use Rattle.name_table.specs.Stored.{stage_lengths}
use Rattle.stage_names.specs.StageNames.{flat, name_ends}
use Rattle.stage_tables.specs.StageTables.{stage_sections}
use Rattle.number_names.specs.Tables.{listed}
use Rattle.import.specs.Import.{tables_of}
use Rattle.entry_import_elf.specs.Entry.{symbols_room}
use Rattle.entry_import_elf.proofs.Laws.{names_are, given_as, image_said, image_stops, image_goes}
use Rattle.entry_import_elf.proofs.from_image.Goals as goal

pub returns-in_err-heads : goal.returns-in_err-heads
returns-in_err-heads c =
    λ s p.
    let a = c.args in
    let file = a.source.now.file.bytes.now in
    let names = listed a.source.now.names.known in
    let t = tables_of file names in
    let k = a.source.now.names.known.known.laid in
    let m = a.source.now.names.measured ∙ (λ z. stage_lengths (k.ends_are z) (k.bytes_are z)) ∙ ap (λ (x : List (List ℕ)). stage_lengths (name_ends x) (flat x)) (sym (names_are file names)) in
    let said = image_said (length file) t c.in_err-heads.ensures.said m p s in
    rw (is_err _ c.from_residual.ensures.1) (sym (image_stops (length file) 64 (symbols_room (length a.symbols.now)) t said refl))

pub from_symbols-requires : goal.from_symbols-requires
from_symbols-requires c = c.in_ok-heads.ensures.table.held

pub returns : goal.returns
returns c =
    λ s p.
    let a = c.args in
    let file = a.source.now.file.bytes.now in
    let names = listed a.source.now.names.known in
    let t = tables_of file names in
    let w = c.in_ok-heads.ensures in
    let k = a.source.now.names.known.known.laid in
    let m = a.source.now.names.measured ∙ (λ z. stage_lengths (k.ends_are z) (k.bytes_are z)) ∙ ap (λ (x : List (List ℕ)). stage_lengths (name_ends x) (flat x)) (sym (names_are file names)) in
    let said = image_said (length file) t w.said m p s in
    let heads = (λ z. sections_in (w.table.bytes z) (w.table.places z)) ∙ ap stage_sections s in
    given_as t a.symbols.now c.from_symbols.new.symbols c.from_symbols.result (image_goes (length file) 64 (symbols_room (length a.symbols.now)) t said refl)
    (c.from_symbols.ensures heads)
