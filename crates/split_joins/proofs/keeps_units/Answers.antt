-- `split_joins::keeps_units` meets its contract. Invariant: each unit of the rows passed is that of no row around, or is `unit`.
-- Assumes nothing.
use mathlib.Core.Path.{◌≡◌, sym, ◌∙◌}
use Prim.Native.Nat.{ℕ, ◌+◌, ◌-◌}
use native.Mathlib.Omega.{arith}
use lib.ListN.{length, get_or, take, drop}
use Rattle.std.proofs.lemmas.Bool.{or_parts}
use Rattle.splits.proofs.Blocks.{length_part, each_more}
use Rattle.lists.proofs.Parts.{get_or-part}
use Rattle.split_joins.specs.Joins.{Alone}
use Rattle.split_joins.proofs.Apart.{alone_same, alone_none}
use Rattle.split_joins.proofs.keeps_units.Goals as goal
use Rattle.split_joins.proofs.keeps_units.Goals.{then-u-unit+else-before-behind, else-u-unit}

pub loop-u-preserved : goal.loop-u-preserved
loop-u-preserved c =
    let l = c.loop-u in
    let r = c.args.rows.now in
    let s = r.splits.units.now in
    let i = r.first + l.u-index in
    let few = length_part s r.first (r.stop - r.first) (omega arith) in
    let here : get_or (take (r.stop - r.first) (drop r.first s)) l.u-index 0 ≡ get_or s i 0 = get_or-part s r.first (r.stop - r.first) l.u-index 0 (omega (arith, few, c.loop-u-test.true)) in
    λ k h m.
    each_more (λ (j : ℕ). Alone (λ (j : ℕ). get_or s j 0) r.splits.count r.first r.stop c.args.unit (get_or s j 0)) r.first i l.invariant
    (elim c.if-u-unit.branch [
      | then-u-unit+else-before-behind w ↦
          let none = or_parts w.has_unit-before.result w.has_unit-behind.result w.if-before-behind.false in
          rw (← here) (alone_none s r.splits.count r.first r.stop c.args.unit _ (omega arith) (omega arith) (omega arith) (sym w.has_unit-before.ensures ∙ none.0) (sym w.has_unit-behind.ensures ∙ none.1))
      | else-u-unit w ↦ rw (← here) (alone_same s r.splits.count r.first r.stop c.args.unit _ (omega (arith, w.if-u-unit.false)))
    ]) k h (omega arith)

pub returns : goal.returns
returns c =
    λ e k h m.
    let r = c.args.rows.now in
    c.loop-u.invariant k h (omega (arith, length_part r.splits.units.now r.first (r.stop - r.first) (omega arith), c.loop-u-test.false))
