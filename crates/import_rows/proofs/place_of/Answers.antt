-- `import_rows::place_of` meets its contract. Assumes nothing.
use borrow.Author.Tests.{eq-eqb, ne_eqb}
use Rattle.import_rows.specs.Rows.{place_of}
use Rattle.import_rows.proofs.place_of.Goals as goal

pub returns-then-h-eq-SHT_NOBITS : goal.returns-then-h-eq-SHT_NOBITS
unfolding place_of
returns-then-h-eq-SHT_NOBITS c = rw (eq-eqb _ _ c.if-h-eq-SHT_NOBITS.true)

pub returns : goal.returns
unfolding place_of
returns c = rw (ne_eqb _ _ c.if-h-eq-SHT_NOBITS.false)
