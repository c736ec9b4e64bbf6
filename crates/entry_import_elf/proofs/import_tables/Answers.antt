-- Each return is one step of the definition, in its order.
use Rattle.std.proofs.Common.{refl, sym, arith, length, length-take-le}
use Rattle.obj.proofs.Errors.{is_err}
use Rattle.elf_file.proofs.Laws.{file_passed}
use Rattle.import.specs.Import.{tables_of}
use Rattle.entry_import_elf.specs.Entry.{rooms_of}
use Rattle.entry_import_elf.proofs.Laws.{file_stops, names_refused, import_refused, import_accepted, numbered-laid, numbered_ends, numbered_bytes, tables-written}
use Rattle.entry_import_elf.proofs.import_tables.Goals as goal

pub returns-in_err-check_file-clause-given : goal.returns-in_err-check_file-clause-given
returns-in_err-check_file-clause-given c =
    let a = c.args in
    let rooms = rooms_of (length a.name_ends.now) (length a.name_bytes.now) (length a.rows.now.sections.now) (length a.rows.now.places.now) (length a.rows.now.symbols.now) in
    rw (is_err _ c.from_residual.ensures.1) (file_stops a.file.now rooms c.in_err-check_file.ensures refl)

pub invariant_of-elf : goal.invariant_of-elf
invariant_of-elf c = record { headed = (file_passed c.args.file.now (sym c.in_ok-check_file.ensures)).long }

pub returns-in_err-count-clause-given : goal.returns-in_err-count-clause-given
returns-in_err-count-clause-given c =
    let a = c.args in
    let rooms = rooms_of (length a.name_ends.now) (length a.name_bytes.now) (length a.rows.now.sections.now) (length a.rows.now.places.now) (length a.rows.now.symbols.now) in
    let e = c.in_err-count.ensures in
    rw (is_err _ c.from_residual-in_err-count.ensures.1, e.was) (names_refused a.file.now rooms c.in_ok-check_file.ensures refl e.is)

pub slice_bounds-from_names-end : goal.slice_bounds-from_names-end
slice_bounds-from_names-end c = let n = c.in_ok-count.ensures in omega (arith, n.ends_fit, numbered_ends n)

pub slice_bounds-from_names-end-2 : goal.slice_bounds-from_names-end-2
slice_bounds-from_names-end-2 c = let n = c.in_ok-count.ensures in sym (length-take-le _ _ (omega (arith, n.ends_fit, numbered_ends n)))

pub slice_bounds-from_names-end-3 : goal.slice_bounds-from_names-end-3
slice_bounds-from_names-end-3 c = let n = c.in_ok-count.ensures in omega (arith, n.bytes_fit, numbered_bytes n)

pub slice_bounds-from_names-end-4 : goal.slice_bounds-from_names-end-4
slice_bounds-from_names-end-4 c = let n = c.in_ok-count.ensures in sym (length-take-le _ _ (omega (arith, n.bytes_fit, numbered_bytes n)))

pub from_names-requires : goal.from_names-requires
from_names-requires c = let n = c.in_ok-count.ensures in record { names = n.names; laid = numbered-laid n }

pub returns-in_err-r-clause-given : goal.returns-in_err-r-clause-given
returns-in_err-r-clause-given c =
    let a = c.args in
    let rooms = rooms_of (length a.name_ends.now) (length a.name_bytes.now) (length a.rows.now.sections.now) (length a.rows.now.places.now) (length a.rows.now.symbols.now) in
    let n = c.in_ok-count.ensures in
    rw (is_err _ c.from_residual-in_err-r.ensures.1) (import_refused a.file.now rooms c.in_ok-check_file.ensures refl n.names n.is (c.in_err-r.ensures.given n.names rooms.names (numbered-laid n)))

pub returns-clause-given : goal.returns-clause-given
returns-clause-given c =
    let a = c.args in
    let rooms = rooms_of (length a.name_ends.now) (length a.name_bytes.now) (length a.rows.now.sections.now) (length a.rows.now.places.now) (length a.rows.now.symbols.now) in
    let n = c.in_ok-count.ensures in
    let g = c.in_ok-r.ensures.given n.names rooms.names (numbered-laid n) in
    record {
      tables = tables_of a.file.now n.names;
      said = import_accepted a.file.now rooms c.in_ok-check_file.ensures refl n.names n.is g.said;
      written = tables-written a.file.now n g;
      few_names = omega (arith, n.few);
      few_bytes = n.small;
      few_sections = omega (arith, g.few_sections);
      few_symbols = omega (arith, g.few_symbols);
    }
