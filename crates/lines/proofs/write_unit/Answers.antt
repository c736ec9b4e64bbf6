-- `lines::write_unit` meets its contract: its fields stand one behind another, each with its space, and end as the line does.
-- Assumes nothing.
use mathlib.Core.Path.{sym}
use native.Mathlib.Omega.{arith}
use Rattle.names.specs.Fixed.{codes}
use Rattle.lines.specs.Lines.{line, decimal}
use Rattle.lines.proofs.Puts.{adds_more, written, fields}
use Rattle.lines.proofs.write_unit.Goals as goal

pub returns : goal.returns
unfolding codes line
returns c =
    let line = adds_more (codes "unit") 32 c.put_field.ensures
    (adds_more (decimal c.args.number) 32 c.put_decimal.ensures
    (adds_more (c.args.name.now) 32 c.put_field-2.ensures
    c.put_decimal-2.ensures)) in
    rw (c.out-1.given.1.1 (sym line.lent)) (written _ line.put (grind (arith, fields)))
