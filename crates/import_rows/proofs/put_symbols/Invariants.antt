-- `import_rows::put_symbols` meets its contract. Invariant: the symbols that are left are to be written behind those that are. Assumes nothing.
use mathlib.Core.List.{map}
use Prim.Native.Nat.{◌*◌, ◌-◌, ◌/◌}
use lib.ListN.{length}
use Rattle.lists.specs.Rows.{tabulate}
use Rattle.elf.specs.Elf.{symbol_entry_at}
use Rattle.elf_file.specs.File.{entries_of}
use Rattle.number_names.specs.Tables.{listed}
use Rattle.import_rows.specs.Rows.{symbol_of, symbols_table}
use Rattle.obj.specs.Bytes.{symbol_record}
use Rattle.import_rows.proofs.Laws.{Writing}
use Rattle.import_rows.proofs.put_symbols.Given as goal

abbrev pub invariant-loop-i : goal.invariant-loop-i
invariant-loop-i l =
    let symbol = symbol_of (listed l.names) l.strings l.taken.numbers.now in
    Writing (map symbol_record (map symbol (tabulate (λ k. symbol_entry_at l.table (16 * k)) l.i (length l.table / 16 - l.i)))) (symbols_table (map symbol (entries_of l.table))) l.initial.out l.out (20 * (l.i - 1))
