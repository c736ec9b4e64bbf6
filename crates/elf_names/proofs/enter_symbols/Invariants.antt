-- The loop of `elf_names::enter_symbols`: the names of the symbols from i on are left (`Entering`).
use Rattle.elf_names.specs.Names.{symbol_names}
use Rattle.elf_names.proofs.Laws.{symbols_left}
use Rattle.elf_names.proofs.Loop.{Entering}
use Rattle.elf_names.proofs.enter_symbols.Given as goal

abbrev pub invariant-loop-i : goal.invariant-loop-i
invariant-loop-i l = Entering (symbols_left l.table l.strings) (symbol_names l.table l.strings) l.strings l.initial.names l.names l.seen l.i
