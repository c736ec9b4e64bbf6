-- `import_rows::put_sections` meets its contract. Invariant: the heads that are left are to be written behind those that are. Assumes nothing.
use mathlib.Core.List.{map}
use Prim.Native.Nat.{ℕ, ◌*◌}
use lib.ListN.{drop}
use Rattle.obj.specs.declared.Section.{Section}
use Rattle.elf_file.specs.File.{header_of}
use Rattle.number_names.specs.Tables.{listed}
use Rattle.import_rows.specs.Rows.{head_of, sections_table}
use Rattle.obj.specs.Bytes.{section_record}
use Rattle.import_rows.proofs.Laws.{Writing}
use Rattle.import_rows.proofs.put_sections.Given as goal

abbrev pub invariant-loop-i : goal.invariant-loop-i
invariant-loop-i l =
    let head : ℕ → Section = λ k. head_of (listed l.names) l.strings (header_of l.headers k) in
    Writing (map section_record (map head (drop l.i l.taken.numbers.now))) (sections_table (map head l.taken.numbers.now)) l.initial.out l.out (15 * l.i)
