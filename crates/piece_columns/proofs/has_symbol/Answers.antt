-- `piece_columns::has_symbol` meets its contract. Invariant: j is on the symbol's chain, so what lies below it is what lies below k.
use mathlib.Core.Path.{sym, ap, ◌∙◌}
use Prim.Native.Nat.{ℕ, ◌+◌, ◌-◌, ◌<◌}
use native.Mathlib.Omega.{arith}
use lib.ListN.{length}
use Rattle.pieces.specs.declared.PieceSymbol.{PieceSymbol}
use Rattle.pieces.specs.Pieces.{symbols_in}
use Rattle.piece_columns.specs.Columns.{entry_at, ChainedOf}
use Rattle.piece_columns.proofs.Chains.{On, on_start, on_le, on_end, on_hit, on_next}
use Rattle.piece_columns.proofs.Regions.{in_lasts, last_at, length_prevs, prev_at}
use Rattle.piece_columns.proofs.has_symbol.Goals as goal
use Rattle.piece_columns.proofs.has_symbol.Goals.{Else-y-unit, After-number-j-in-loop-j}

-- j lies among the chained entries, so the place of the entry before lies in the second column
behind : (c : Else-y-unit) → 4096 + (c.loop-j.j - 1) < length c.args.chains.now
behind c =
    let a = c.args in
    let k = c.requires.1.0 in
    let chained = c.requires.1.1 in
    omega (arith, c.loop-j-test.true, on_le (entry_at a.entries.now) a.unit a.symbol k c.loop-j.j (c.loop-j.invariant k chained), chained.room, length_prevs a.chains.now)

-- the next on the chain
onward : (c : After-number-j-in-loop-j) → (k : ℕ) → ChainedOf c.args.chains.now c.args.entries.now k
    → On (entry_at c.args.entries.now) c.args.unit c.args.symbol k c.number-j-in-loop-j.result × (c.number-j-in-loop-j.result < c.loop-j.j)
onward c k chained =
    let a = c.args in
    let on = c.loop-j.invariant k chained in
    let le = on_le (entry_at a.entries.now) a.unit a.symbol k c.loop-j.j on in
    on_next (entry_at a.entries.now) a.unit a.symbol k c.loop-j.j on c.loop-j-test.true c.number-j-in-loop-j.result
    (λ e. c.if-y-unit.false (ap (λ (y : PieceSymbol). y.unit) c.record_in-y.ensures ∙ e))
    (c.number-j-in-loop-j.ensures ∙ prev_at a.chains.now (c.loop-j.j - 1) ∙ chained.prev (c.loop-j.j - 1) (omega (arith, le, c.loop-j-test.true)))

pub number-j-requires : goal.number-j-requires
number-j-requires c = let s = c in (in_lasts s.args.chains.now s.args.symbol s.requires.0).1

pub loop-j-init : goal.loop-j-init
loop-j-init c = λ k chained.
    let a = c.args in
    on_start (entry_at a.entries.now) a.unit a.symbol k _
    (c.number-j.ensures ∙ last_at a.chains.now a.symbol (in_lasts a.chains.now a.symbol c.requires.0).0 ∙ chained.head a.symbol c.requires.0)

pub record_in-y-requires : goal.record_in-y-requires
record_in-y-requires c =
    let a = c.args in
    let k = c.requires.1.0 in
    let chained = c.requires.1.1 in
    omega (arith, on_le (entry_at a.entries.now) a.unit a.symbol k c.loop-j.j (c.loop-j.invariant k chained), chained.held)

pub returns-then-y-unit : goal.returns-then-y-unit
unfolding symbols_in
returns-then-y-unit c = λ k chained.
    let a = c.args in
    on_hit (entry_at a.entries.now) a.unit a.symbol k c.loop-j.j (c.loop-j.invariant k chained) c.loop-j-test.true (ap (λ (y : PieceSymbol). y.unit) (sym c.record_in-y.ensures) ∙ c.if-y-unit.true)

pub overflow_add-j : goal.overflow_add-j
overflow_add-j c = omega (arith, behind (goal.at.overflow_add-j c).Else-y-unit)

pub number-j-requires-in-loop-j : goal.number-j-requires-in-loop-j
number-j-requires-in-loop-j c = behind (goal.at.number-j-requires-in-loop-j c).Else-y-unit

pub loop-j-smaller : goal.loop-j-smaller
loop-j-smaller c = (onward (goal.at.loop-j-smaller c).After-number-j-in-loop-j c.requires.1.0 c.requires.1.1).1

pub loop-j-preserved : goal.loop-j-preserved
loop-j-preserved c = λ k chained. (onward (goal.at.loop-j-preserved c).After-number-j-in-loop-j k chained).0

pub returns : goal.returns
unfolding symbols_in
returns c = λ k chained.
    let a = c.args in
    on_end (entry_at a.entries.now) a.unit a.symbol k c.loop-j.j (c.loop-j.invariant k chained) c.loop-j-test.false
