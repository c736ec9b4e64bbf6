-- `lines::write_reloc` meets its contract: its fields stand one behind another, each with its space, and end as the line does.
-- Assumes nothing.
use mathlib.Core.Path.{sym, ap}
use native.Mathlib.Omega.{arith}
use Rattle.std.proofs.Common.{rules}
use mir.Syntax.{w64}
use mir.Val.{SFits}
use mir.ValLaws.{to_z-of_z}
use Rattle.names.specs.Fixed.{codes}
use Rattle.names.specs.GapName.{hex8}
use Rattle.lines.specs.Lines.{line, decimal, signed_decimal}
use Rattle.lines.proofs.Puts.{adds_more, written, fields, adds_as}
use Rattle.lines.proofs.write_reloc.Goals as goal

pub returns : goal.returns
unfolding codes line
returns c =
    let a = c.args.reloc.now.addend in
    let fits : SFits w64 a = search rules in
    let line = adds_more (codes "reloc") 32 c.put_field.ensures
    (adds_more (decimal c.args.number) 32 c.put_decimal.ensures
    (adds_more (hex8 c.args.offset) 32 c.put_hex8.ensures
    (adds_more (decimal c.args.reloc.now.kind) 32 c.put_decimal-2.ensures
    (adds_more (decimal c.args.reloc.now.target) 32 c.put_decimal-3.ensures
    (adds_as 10 (ap signed_decimal (to_z-of_z w64 a fits)) c.put_signed.ensures))))) in
    rw (c.out-1.given.1.1 (sym line.lent)) (written _ line.put (grind (arith, fields)))
