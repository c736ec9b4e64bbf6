-- `import_rows::put_places` meets its contract. Invariant: the places that are left are to be written behind those that are. Assumes nothing.
use native.Mathlib.Omega.{arith}
use mathlib.Core.Path.{ap, ◌∙◌}
use Prim.Native.Nat.{ℕ, ◌*◌}
use lib.Seq.{sets}
use Rattle.fields.specs.Fields.{enc32}
use Rattle.elf_file.specs.File.{header_of}
use Rattle.import_rows.specs.Rows.{place_of}
use Rattle.import_rows.proofs.Laws.{write_turn, write_done, rows_turn, rows_done}
use Rattle.import_rows.proofs.put_places.Goals as goal

pub loop-i-preserved : goal.loop-i-preserved
loop-i-preserved c =
    let a = c.args in
    let i = c.loop-i.i in
    write_turn c.loop-i.invariant (rows_turn (λ p. enc32 p) (λ k. place_of (header_of a.headers.now k)) a.taken.numbers.now i c.loop-i-test.true)
    (c.put.ensures ∙ ap (λ (p : ℕ). sets c.loop-i.out (4 * i) (enc32 p)) (c.place_of.ensures ∙ ap place_of c.header_of.ensures))
    (omega arith)

pub returns : goal.returns
returns c = write_done c.loop-i.invariant (rows_done _ _ _ _ c.loop-i-test.false)
