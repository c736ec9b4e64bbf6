-- `trim::end_of` meets its contract: the end of the found symbol, which is one of the table and ends below 0xF0000000.
use mathlib.Core.Path.{sym, ap, ◌∙◌}
use Prim.Native.Nat.{◌+◌}
use native.Mathlib.Omega.{arith}
use Rattle.obj.specs.declared.Symbol.{Symbol}
use Rattle.symbol_order.specs.Order.{symbol_of}
use Rattle.symbol_order.proofs.Parts.{held}
use Rattle.trim.specs.Trim.{end_of}
use Rattle.trim.proofs.end_of.Goals as goal

pub record-requires : goal.record-requires
record-requires c = held _ _ c.requires.0 _ (c.requires.3 c.in-Some.i c.in-Some.is)

pub overflow_cast-result : goal.overflow_cast-result
overflow_cast-result c =
    let e = c.end.ensures ∙ ap (λ (y : Symbol). y.address + y.size) c.record.ensures in
    omega (arith, e, c.requires.1.ends _ (c.requires.3 c.in-Some.i c.in-Some.is))

pub returns-in-Some : goal.returns-in-Some
unfolding end_of
returns-in-Some c =
    let a = c.args in
    let e = c.end.ensures ∙ ap (λ (y : Symbol). y.address + y.size) c.record.ensures in
    record {
      is = e ∙ ap (end_of (symbol_of a.table.now.bytes.now a.table.now.places.now) a.own) (sym c.in-Some.is);
      small = omega (arith, e, c.requires.1.ends _ (c.requires.3 c.in-Some.i c.in-Some.is));
    }

pub returns-in-None : goal.returns-in-None
unfolding end_of
returns-in-None c =
    let a = c.args in
    record { is = ap (end_of (symbol_of a.table.now.bytes.now a.table.now.places.now) a.own) (sym c.in-None.is); small = c.requires.2 }
