-- `lines::write_refused` meets its contract: its fields stand one behind another, each with its space, and end as the line does.
-- Assumes nothing.
use mathlib.Core.Path.{sym}
use native.Mathlib.Omega.{arith}
use Rattle.names.specs.Fixed.{codes}
use Rattle.lines.specs.Lines.{line, decimal}
use Rattle.lines.proofs.Puts.{adds_more, written, fields}
use Rattle.lines.proofs.write_refused.Goals as goal

pub returns : goal.returns
unfolding codes line
returns c =
    let line = adds_more (codes "refused") 32 c.put_field.ensures
    (adds_more (decimal c.args.r.number) 32 c.put_decimal.ensures
    (adds_more (decimal c.args.r.section) 32 c.put_decimal-2.ensures
    c.put_hex8.ensures)) in
    rw (c.out-1.given.1.1 (sym line.lent)) (written _ line.put (grind (arith, fields)))
