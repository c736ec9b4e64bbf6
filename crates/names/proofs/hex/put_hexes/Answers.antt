-- `names::hex::put_hexes` meets its contract. Invariant: writing the digits of the bytes that are left is writing all.
-- Assumes nothing.
use mathlib.Core.Path.{sym, ap, ◌∙◌}
use Prim.Native.Nat.{ℕ, ◌+◌, ◌*◌}
use mathlib.Core.List.{List}
use lib.ListN.{drop, drop_of_length-le}
use lib.Seq.{sets}
use Rattle.names.specs.GapName.{hexes}
use Rattle.names.proofs.HexDigits.{hexes_turn, hexes-none}
use Rattle.names.proofs.hex.put_hexes.Goals as goal

pub loop-i-preserved : goal.loop-i-preserved
loop-i-preserved c =
    let l = c.loop-i in
    let a = c.args in
    ap (λ (x : List ℕ). sets x (a.at + 2 * (l.i + 1)) (hexes (drop (l.i + 1) a.bytes.now))) c.put_hex.ensures
    ∙ hexes_turn l.out a.bytes.now a.at l.i c.loop-i-test.true
    ∙ l.invariant

pub returns : goal.returns
returns c =
    let l = c.loop-i in
    let a = c.args in
    sym (ap (λ (x : List ℕ). sets l.out (a.at + 2 * l.i) x) (ap hexes (drop_of_length-le a.bytes.now c.loop-i-test.false) ∙ hexes-none)) ∙ l.invariant
