-- The loop of `elf_names::enter_sections`: the names of the sections from i on are left (`Entering`).
use Rattle.elf_names.specs.Names.{section_names}
use Rattle.elf_names.proofs.Laws.{sections_left}
use Rattle.elf_names.proofs.Loop.{Entering}
use Rattle.elf_names.proofs.enter_sections.Given as goal

abbrev pub invariant-loop-i : goal.invariant-loop-i
invariant-loop-i l = Entering (sections_left l.headers l.strings) (section_names l.headers l.strings) l.strings l.initial.names l.names l.seen l.i
