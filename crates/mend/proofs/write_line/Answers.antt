-- The fields stand one behind another, each with its space, and end as the line does.
use mathlib.Core.Path.{sym}
use native.Mathlib.Omega.{arith}
use Rattle.names.specs.GapName.{hex8}
use Rattle.lines.specs.Lines.{line, decimal}
use Rattle.lines.proofs.Puts.{adds_more, written, fields}
use Rattle.mend.proofs.write_line.Goals as goal

pub returns : goal.returns
unfolding line
returns c =
    let line = adds_more (decimal c.args.s.section) 32 c.put_decimal.ensures
    (adds_more (hex8 c.args.s.start) 32 c.put_hex8.ensures
    (adds_more (hex8 c.args.s.end) 32 c.put_hex8-2.ensures
    c.put_hex8-3.ensures)) in
    rw (c.out-1.given.1.1 (sym line.lent)) (written _ line.put (grind (arith, fields)))
