-- `lines::write_piece` meets its contract: its fields stand one behind another, each with its space, and end as the line does.
-- Assumes nothing.
use mathlib.Core.Path.{sym}
use native.Mathlib.Omega.{arith}
use Rattle.names.specs.Fixed.{codes}
use Rattle.names.specs.GapName.{hex8}
use Rattle.lines.specs.Lines.{line, decimal}
use Rattle.lines.proofs.Puts.{adds_more, written, fields}
use Rattle.lines.proofs.write_piece.Goals as goal

pub returns : goal.returns
unfolding codes line
returns c =
    let line = adds_more (codes "piece") 32 c.put_field.ensures
    (adds_more (decimal c.args.piece.now.number) 32 c.put_decimal.ensures
    (adds_more (c.args.name.now) 32 c.put_field-2.ensures
    (adds_more (hex8 c.args.piece.now.address) 32 c.put_hex8.ensures
    (adds_more (decimal c.args.piece.now.size) 32 c.put_decimal-2.ensures
    (adds_more (decimal c.args.piece.now.alignment) 32 c.put_decimal-3.ensures
    c.put_decimal-4.ensures))))) in
    rw (c.out-1.given.1.1 (sym line.lent)) (written _ line.put (grind (arith, fields)))
