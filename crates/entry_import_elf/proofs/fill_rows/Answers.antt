-- The heads and places are written, and what was written is asked.
use Rattle.std.proofs.Common.{ℕ, ◌∙◌, List, sym, ap, arith, length, length-take-le}
use Rattle.std.proofs.lemmas.List.Edits.{sets}
use Rattle.obj.proofs.Errors.{is_err}
use Rattle.number_names.specs.Tables.{listed}
use Rattle.import_rows.specs.Rows.{sections_table, places_table}
use Rattle.import_rows.proofs.Laws.{long_sections, long_places}
use Rattle.import.specs.Import.{tables_of}
use Rattle.import.proofs.Sections.{sections_count, places_count}
use Rattle.entry_import_elf.proofs.Laws.{front, numbers_of, numbers_as, sections_written, places_written}
use Rattle.entry_import_elf.proofs.fill_rows.Goals as goal

pub put_sections-requires : goal.put_sections-requires
put_sections-requires c = (numbers_as c.header_table-headers.ensures (numbers_of _ _ c.args.source.now.all), c.requires.0)

pub put_places-requires : goal.put_places-requires
put_places-requires c = (numbers_as c.header_table-headers.ensures (numbers_of _ _ c.args.source.now.all), c.requires.1)

pub slice_bounds-from_image-end-2 : goal.slice_bounds-from_image-end-2
slice_bounds-from_image-end-2 c = sym (length-take-le _ _ (omega (arith, c.requires.0, c.put_sections.auto.out)))

pub slice_bounds-from_image-end-4 : goal.slice_bounds-from_image-end-4
slice_bounds-from_image-end-4 c = sym (length-take-le _ _ (omega (arith, c.requires.1, c.put_places.auto.out)))

pub returns-in_err-count : goal.returns-in_err-count
returns-in_err-count c =
    let a = c.args in
    let file = a.source.now.file.bytes.now in
    let names = listed a.source.now.names.known in
    let t = tables_of file names in
    let n = ap (λ (l : List ℕ). length l) a.source.now.all ∙ sym (sections_count file names) in
    let headers = c.header_table-headers.ensures in
    let fs = c.put_sections.ensures ∙ ap (sets a.sections.now 0) (sections_written file names headers c.section_strings.ensures a.source.now.all) in
    let fp = c.put_places.ensures ∙ ap (sets a.section_places.now 0) (places_written file names headers a.source.now.all) in
    let ws = front a.sections.now (sections_table t.sections) fs (omega (arith, n, long_sections t.sections)) (omega (arith, c.requires.0)) in
    let wp = front a.section_places.now (places_table t.places) fp (omega (arith, n, long_places t.places, places_count file names, sections_count file names)) (omega (arith, c.requires.1)) in
    rw (is_err _ c.from_residual.ensures.1) (c.in_err-count.ensures ws wp)

pub returns : goal.returns
returns c =
    let a = c.args in
    let file = a.source.now.file.bytes.now in
    let names = listed a.source.now.names.known in
    let t = tables_of file names in
    let n = ap (λ (l : List ℕ). length l) a.source.now.all ∙ sym (sections_count file names) in
    let headers = c.header_table-headers.ensures in
    let fs = c.put_sections.ensures ∙ ap (sets a.sections.now 0) (sections_written file names headers c.section_strings.ensures a.source.now.all) in
    let fp = c.put_places.ensures ∙ ap (sets a.section_places.now 0) (places_written file names headers a.source.now.all) in
    let ws = front a.sections.now (sections_table t.sections) fs (omega (arith, n, long_sections t.sections)) (omega (arith, c.requires.0)) in
    let wp = front a.section_places.now (places_table t.places) fp (omega (arith, n, long_places t.places, places_count file names, sections_count file names)) (omega (arith, c.requires.1)) in
    let g = c.in_ok-count.ensures ws wp in
    record {
      said = g.said;
      sections_written = fs;
      places_written = fp;
      symbols_written = g.written;
      sections_counted = n;
      symbols_counted = g.counted;
      few_sections = a.source.now.taken.few;
      few_symbols = g.few;
    }
