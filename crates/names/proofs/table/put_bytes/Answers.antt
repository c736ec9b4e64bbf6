-- `names::table::put_bytes` meets its contract: a byte more is stored at each turn, and at the end none is left.
-- Assumes nothing.
use mathlib.Core.Path.{◌≡◌, sym, ap, ◌∙◌}
use Prim.Native.Nat.{ℕ, ◌+◌, ◌<◌}
use native.Mathlib.Nat.{add-suc}
use Rattle.std.proofs.Common.{add-one}
use mathlib.Core.List.{List}
use lib.ListN.{length, get_or, set, drop, drop_of_length-le}
use lib.Seq.{sets, drop-cons}
use Rattle.names.proofs.table.put_bytes.Goals as goal

turn : (out bytes : List ℕ) (at i : ℕ) → i < length bytes → sets (set out (at + i) (get_or bytes i 0)) (at + (i + 1)) (drop (i + 1) bytes) ≡ sets out (at + i) (drop i bytes)
turn out bytes at i h = rw (add-one, add-suc, drop-cons bytes i 0 h)

pub loop-i-preserved : goal.loop-i-preserved
loop-i-preserved c =
    let l = c.loop-i in
    let a = c.args in
    turn l.out a.from.now a.at l.i c.loop-i-test.true ∙ l.invariant

pub returns : goal.returns
returns c =
    let l = c.loop-i in
    let a = c.args in
    sym (ap (λ (x : List ℕ). sets l.out (a.at + l.i) x) (drop_of_length-le a.from.now c.loop-i-test.false)) ∙ l.invariant
