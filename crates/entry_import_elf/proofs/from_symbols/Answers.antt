-- Too many are refused; else they are written, and what was written is asked.
use Rattle.std.proofs.Common.{ℕ, ◌-◌, ◌*◌, ◌/◌, ◌≡◌, ◌≤◌, ◌∙◌, List, sym, ap, arith, length, take, length-take-le}
use Rattle.std.proofs.lemmas.List.Edits.{sets}
use Rattle.obj.proofs.Errors.{is_err}
use Rattle.lists.specs.Outcome.{refused}
use Rattle.elf.specs.declared.SectionHeader.{SectionHeader}
use Rattle.elf_file.specs.File.{section_bytes, symbol_table}
use Rattle.stage_names.specs.StageNames.{name_ends}
use Rattle.number_names.specs.Tables.{listed}
use Rattle.import.specs.Import.{tables_of}
use Rattle.import.proofs.Sections.{symbols_count}
use Rattle.import_rows.specs.Rows.{symbols_table}
use Rattle.import_rows.proofs.Laws.{long_symbols}
use Rattle.entry_import_elf.specs.Entry.{symbols_room}
use Rattle.entry_import_elf.proofs.Laws.{front, names_are, symbols_written, symbols_many, symbols_asked}
use Rattle.outputs.proofs.Room.{room_low, room_fits}
use Rattle.entry_import_elf.proofs.from_symbols.Goals as goal

pub returns-then-room-n : goal.returns-then-room-n
returns-then-room-n c =
    λ s.
    let a = c.args in
    let file = a.source.now.file.bytes.now in
    let names = listed a.source.now.names.known in
    let table = c.section_bytes-table.ensures ∙ ap (λ (h : SectionHeader). section_bytes file h) (c.symbol_table-t.ensures.header ∙ ap symbol_table c.header_table.ensures) in
    let n = c.entry_count-n.ensures.1 ∙ ap (λ (l : List ℕ). length l / 16 - 1) table ∙ sym (symbols_count file names) in
    let many = symbols_many (symbols_room (length a.symbols.now)) (tables_of file names) n (omega (arith, c.if-room-n.true, c.room_for-room.ensures)) in
    rw c.refuse.ensures (sym (ap (λ (m : ℕ). refused 2 0 m) c.room_for-room.ensures ∙ many))

pub put_symbols-requires : goal.put_symbols-requires
put_symbols-requires c = omega (arith, c.if-room-n.false, c.room_for-room.ensures, room_fits 4096 20 (length c.args.symbols.now), c.entry_count-n.ensures.1)

pub overflow_cast-room : goal.overflow_cast-room
overflow_cast-room c = omega (arith, c.room_for-room.ensures, room_low 4096 20 (length c.args.symbols.now))

pub slice_bounds-take_symbols-end : goal.slice_bounds-take_symbols-end
slice_bounds-take_symbols-end c = omega (arith, c.if-room-n.false, c.room_for-room.ensures, room_fits 4096 20 (length c.args.symbols.now), c.put_symbols.auto.out)

pub slice_bounds-take_symbols-end-2 : goal.slice_bounds-take_symbols-end-2
slice_bounds-take_symbols-end-2 c = sym (length-take-le _ _ (omega (arith, c.if-room-n.false, c.room_for-room.ensures, room_fits 4096 20 (length c.args.symbols.now), c.put_symbols.auto.out)))

pub take_symbols-requires : goal.take_symbols-requires
take_symbols-requires c = (c.requires, record { few = omega arith; long = omega arith })

pub returns-in_err-take_symbols : goal.returns-in_err-take_symbols
returns-in_err-take_symbols c =
    λ s.
    let a = c.args in
    let file = a.source.now.file.bytes.now in
    let names = listed a.source.now.names.known in
    let t = tables_of file names in
    let table = c.section_bytes-table.ensures ∙ ap (λ (h : SectionHeader). section_bytes file h) (c.symbol_table-t.ensures.header ∙ ap symbol_table c.header_table.ensures) in
    let n = c.entry_count-n.ensures.1 ∙ ap (λ (l : List ℕ). length l / 16 - 1) table ∙ sym (symbols_count file names) in
    let w = c.put_symbols.ensures ∙ ap (sets a.symbols.now 0) (symbols_written file names table c.symbol_strings.ensures a.source.now.all) in
    let whole : take (20 * c.entry_count-n.result) c.put_symbols.new.out ≡ symbols_table t.symbols = front a.symbols.now (symbols_table t.symbols) w (omega (arith, n, long_symbols t.symbols)) (omega (arith, c.if-room-n.false, c.room_for-room.ensures, room_fits 4096 20 (length c.args.symbols.now), room_low 4096 20 (length c.args.symbols.now))) in
    let ends = a.source.now.names.known.known.laid.ends_are ∙ ap (λ (l : List (List ℕ)). name_ends l) (sym (names_are file names)) in
    let few : c.entry_count-n.result ≤ symbols_room (length a.symbols.now) = omega (arith, c.if-room-n.false, c.room_for-room.ensures) in
    rw (is_err _ c.from_residual.ensures.1) (sym (symbols_asked (symbols_room (length a.symbols.now)) t n few c.in_err-take_symbols.ensures.said ends s whole))

pub returns : goal.returns
returns c =
    λ s.
    let a = c.args in
    let file = a.source.now.file.bytes.now in
    let names = listed a.source.now.names.known in
    let t = tables_of file names in
    let table = c.section_bytes-table.ensures ∙ ap (λ (h : SectionHeader). section_bytes file h) (c.symbol_table-t.ensures.header ∙ ap symbol_table c.header_table.ensures) in
    let n = c.entry_count-n.ensures.1 ∙ ap (λ (l : List ℕ). length l / 16 - 1) table ∙ sym (symbols_count file names) in
    let w = c.put_symbols.ensures ∙ ap (sets a.symbols.now 0) (symbols_written file names table c.symbol_strings.ensures a.source.now.all) in
    let whole : take (20 * c.entry_count-n.result) c.put_symbols.new.out ≡ symbols_table t.symbols = front a.symbols.now (symbols_table t.symbols) w (omega (arith, n, long_symbols t.symbols)) (omega (arith, c.if-room-n.false, c.room_for-room.ensures, room_fits 4096 20 (length c.args.symbols.now), room_low 4096 20 (length c.args.symbols.now))) in
    let ends = a.source.now.names.known.known.laid.ends_are ∙ ap (λ (l : List (List ℕ)). name_ends l) (sym (names_are file names)) in
    record {
      said = sym (symbols_asked (symbols_room (length a.symbols.now)) t n (omega (arith, c.if-room-n.false, c.room_for-room.ensures)) c.in_ok-take_symbols.ensures.said ends s whole);
      written = w;
      counted = n;
      few = omega (arith, c.if-room-n.false, c.room_for-room.ensures, room_fits 4096 20 (length c.args.symbols.now), room_low 4096 20 (length c.args.symbols.now));
    }
