-- `import_rows::put_sections` meets its contract. Invariant: the heads that are left are to be written behind those that are. Assumes nothing.
use native.Mathlib.Omega.{arith}
use mathlib.Core.Path.{ap, ◌∙◌}
use Prim.Native.Nat.{◌*◌}
use lib.ListN.{get_or}
use lib.Seq.{sets}
use Rattle.obj.specs.declared.Section.{Section}
use Rattle.elf_file.specs.File.{header_of}
use Rattle.number_names.specs.Tables.{listed}
use Rattle.import_rows.specs.Rows.{head_of}
use Rattle.obj.specs.Bytes.{section_record}
use Rattle.import_rows.proofs.Laws.{write_turn, write_done, rows_turn, rows_done}
use Rattle.obj.specs.Laws.{length-section_record}
use Rattle.import_rows.proofs.put_sections.Goals as goal

pub loop-i-preserved : goal.loop-i-preserved
loop-i-preserved c =
    let a = c.args in
    let i = c.loop-i.i in
    let names = listed a.names.now in
    write_turn c.loop-i.invariant (rows_turn section_record (λ j. head_of names a.strings.now (header_of a.headers.now j)) a.taken.numbers.now i c.loop-i-test.true)
    (c.write.ensures.written
    ∙ ap (λ (s : Section). sets c.loop-i.out (15 * i) (section_record s)) (c.head_of.ensures ∙ ap (head_of names a.strings.now) c.header_of-h.ensures))
    (omega (arith, length-section_record (head_of names a.strings.now (header_of a.headers.now (get_or a.taken.numbers.now i 0)))))

pub returns : goal.returns
returns c = write_done c.loop-i.invariant (rows_done _ _ _ _ c.loop-i-test.false)
