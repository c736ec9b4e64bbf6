-- `lines::write_symbol` meets its contract: its fields stand one behind another, each with its space, and end as the line does.
-- Assumes nothing.
use mathlib.Core.Path.{sym}
use native.Mathlib.Omega.{arith}
use Rattle.names.specs.Fixed.{codes}
use Rattle.names.specs.GapName.{hex8}
use Rattle.lines.specs.Lines.{line, shown, owner_of}
use Rattle.lines.proofs.Puts.{adds_more, written, fields}
use Rattle.lines.proofs.write_symbol.Goals as goal

pub returns : goal.returns
unfolding codes line
returns c =
    let line = adds_more (codes "sym") 32 c.put_field.ensures
    (adds_more (shown c.args.name.now) 32 c.put_shown.ensures
    (adds_more (owner_of c.args.owner) 32 c.put_owner.ensures
    (adds_more (hex8 c.args.address) 32 c.put_hex8.ensures
    c.put_decimal.ensures))) in
    rw (c.out-1.given.1.1 (sym line.lent)) (written _ line.put (grind (arith, fields)))
