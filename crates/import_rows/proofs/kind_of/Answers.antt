-- `import_rows::kind_of` meets its contract: the tests are the definition's, in its order. Assumes nothing.
use Rattle.std.proofs.Common.{◌≡◌, ◌%◌, arith}
use borrow.Author.Tests.{eq-eqb, ne_eqb}
use Rattle.import_rows.specs.Rows.{kind_of}
use Rattle.import_rows.proofs.kind_of.Goals as goal

pub returns-then-h-eq-SHT_NOBITS : goal.returns-then-h-eq-SHT_NOBITS
unfolding kind_of
returns-then-h-eq-SHT_NOBITS c = rw (eq-eqb _ _ c.if-h-eq-SHT_NOBITS.true)

pub returns-then-h-eq1 : goal.returns-then-h-eq1
unfolding kind_of
returns-then-h-eq1 c = rw (ne_eqb _ _ c.if-h-eq-SHT_NOBITS.false, eq-eqb _ _ c.if-h-eq1.true)

pub returns-then-h-eq1-2 : goal.returns-then-h-eq1-2
unfolding kind_of
returns-then-h-eq1-2 c =
    let writable : c.args.h.flags % 2 ≡ 1 = omega (arith, c.if-h-eq1-2.true) in
    rw (ne_eqb _ _ c.if-h-eq-SHT_NOBITS.false, ne_eqb _ _ c.if-h-eq1.false, eq-eqb _ _ writable)

pub returns : goal.returns
unfolding kind_of
returns c =
    let kept : c.args.h.flags % 2 ≡ 1 → ⊥ = λ e. c.if-h-eq1-2.false (omega (arith, e)) in
    rw (ne_eqb _ _ c.if-h-eq-SHT_NOBITS.false, ne_eqb _ _ c.if-h-eq1.false, ne_eqb _ _ kept)
