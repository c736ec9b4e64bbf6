-- Too many are refused; else they are written, and what was written is asked.
use Rattle.std.proofs.Common.{ℕ, ◌/◌, ◌∙◌, List, sym, ap, arith, length, length-take-le}
use Rattle.lists.specs.Outcome.{refused}
use Rattle.elf_file.specs.File.{taken}
use Rattle.number_names.specs.Tables.{listed}
use Rattle.import.specs.Import.{tables_of}
use Rattle.import.proofs.Sections.{sections_count}
use Rattle.entry_import_elf.specs.Entry.{sections_room, symbols_room}
use Rattle.entry_import_elf.proofs.Laws.{rows_as, sections_many, sections_asked}
use lib.ListN.{length-take}
use Rattle.std.specs.Prelude.{min}
use Rattle.outputs.proofs.Room.{room_low, room_fits}
use Rattle.entry_import_elf.proofs.from_sections.Goals as goal

pub returns-then-room-m-clause-given : goal.returns-then-room-m-clause-given
returns-then-room-m-clause-given c =
    let a = c.args in
    let file = a.file.now.bytes.now in
    let names = listed a.names.now.known in
    let room = c.min-room.ensures ∙ ap (λ (k : ℕ). min k (length a.rows.now.places.now / 4)) c.room_for.ensures in
    let n = c.take_sections-m.ensures.is ∙ ap (λ (x : List ℕ). length (taken x)) c.header_table.ensures ∙ sym (sections_count file names) in
    let many = sections_many (length file) (sections_room (length a.rows.now.sections.now) (length a.rows.now.places.now)) (symbols_room (length a.rows.now.symbols.now)) (tables_of file names) n (omega (arith, c.if-room-m.true, room)) in
    rw c.refuse.ensures (sym (ap (λ (m : ℕ). refused 2 0 m) room ∙ many))

pub overflow_cast-room : goal.overflow_cast-room
overflow_cast-room c = omega (arith, c.min-room.ensures, c.room_for.ensures, room_low 64 15 (length c.args.rows.now.sections.now))

pub slice_bounds-column-end : goal.slice_bounds-column-end
slice_bounds-column-end c = omega (arith, c.if-room-m.false, c.min-room.ensures, c.room_for.ensures, room_low 64 15 (length c.args.rows.now.sections.now))

pub slice_bounds-fill_rows-end : goal.slice_bounds-fill_rows-end
slice_bounds-fill_rows-end c =
    let low = room_low 64 15 (length c.args.rows.now.sections.now) in
    sym (length-take-le _ c.take_sections-m.new.column (omega (arith, c.if-room-m.false, c.min-room.ensures, c.room_for.ensures, low, c.take_sections-m.auto.column)))

pub invariant_of-fill_rows-2 : goal.invariant_of-fill_rows-2
invariant_of-fill_rows-2 c =
    let low = room_low 64 15 (length c.args.rows.now.sections.now) in
    record {
      all = c.take_sections-m.ensures.front (omega (arith, c.if-room-m.false, c.min-room.ensures, c.room_for.ensures, low, c.take_sections-m.auto.column)) ∙ ap taken c.header_table.ensures;
    }

pub fill_rows-requires : goal.fill_rows-requires
fill_rows-requires c =
    let a = c.args in
    let fits = room_fits 64 15 (length a.rows.now.sections.now) in
    (omega (arith, length-take {A = ℕ}, c.if-room-m.false, c.min-room.ensures, c.room_for.ensures, fits), omega (arith, length-take {A = ℕ}, c.if-room-m.false, c.min-room.ensures, c.room_for.ensures))

pub returns-clause-given : goal.returns-clause-given
returns-clause-given c =
    let a = c.args in
    let file = a.file.now.bytes.now in
    let names = listed a.names.now.known in
    let t = tables_of file names in
    let o = c.fill_rows.new in
    let room = c.min-room.ensures ∙ ap (λ (k : ℕ). min k (length a.rows.now.places.now / 4)) c.room_for.ensures in
    let n = c.take_sections-m.ensures.is ∙ ap (λ (z : List ℕ). length (taken z)) c.header_table.ensures ∙ sym (sections_count file names) in
    let st = sections_asked (length file) (sections_room (length a.rows.now.sections.now) (length a.rows.now.places.now)) (symbols_room (length a.rows.now.symbols.now)) t n (omega (arith, c.if-room-m.false, room)) in
    rows_as t a.rows.now.sections.now a.rows.now.places.now a.rows.now.symbols.now o.sections o.section_places o.symbols c.fill_rows.result st c.fill_rows.ensures
