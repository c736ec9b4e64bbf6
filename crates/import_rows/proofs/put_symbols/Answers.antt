-- `import_rows::put_symbols` meets its contract. Invariant: the symbols that are left are to be written behind those that are. Assumes nothing.
use native.Mathlib.Omega.{arith}
use mathlib.Core.Path.{refl, ap, ◌∙◌}
use Prim.Native.Nat.{◌*◌, ◌-◌}
use lib.Seq.{sets}
use Rattle.obj.specs.declared.Symbol.{Symbol}
use Rattle.elf.specs.Elf.{symbol_entry_at}
use Rattle.elf_file.specs.File.{entries_of}
use Rattle.number_names.specs.Tables.{listed}
use Rattle.import_rows.specs.Rows.{symbol_of}
use Rattle.obj.specs.Bytes.{symbol_record}
use Rattle.import_rows.proofs.Laws.{write_start, write_turn, write_done, table_turn, table_done}
use Rattle.obj.specs.Laws.{length-symbol_record}
use Rattle.import_rows.proofs.put_symbols.Goals as goal

pub loop-i-init : goal.loop-i-init
unfolding entries_of
loop-i-init c = write_start _ _ refl

pub loop-i-preserved : goal.loop-i-preserved
loop-i-preserved c =
    let a = c.args in
    let i = c.loop-i.i in
    let symbol = symbol_of (listed a.names.now) a.strings.now a.taken.numbers.now in
    write_turn c.loop-i.invariant (table_turn symbol_record symbol (λ j. symbol_entry_at a.table.now (16 * j)) _ i c.loop-i-test.true)
    (c.write.ensures.written
    ∙ ap (λ (s : Symbol). sets c.loop-i.out (20 * (i - 1)) (symbol_record s)) (c.symbol_of.ensures ∙ ap symbol c.record_in-s.ensures))
    (omega (arith, c.loop-i.auto.i, length-symbol_record (symbol (symbol_entry_at a.table.now (16 * i)))))

pub returns : goal.returns
returns c = write_done c.loop-i.invariant (table_done _ _ _ _ _ c.loop-i-test.false)
