-- `split_joins::has_unit` meets its contract. Invariant: `any`, or the answer of the units that are left, is the answer of all.
-- Assumes nothing.
use mathlib.Core.Path.{sym, ap, ◌∙◌}
use mathlib.Core.Bool.{Bool, ◌||◌, or_assoc, or-false}
use Prim.Native.Nat.{ℕ, ◌+◌}
use lib.Dec.{eqb}
use lib.ListN.{get_or, drop}
use Rattle.lists.specs.Rows.{some}
use Rattle.lists.proofs.Some.{some_turn, some-none}
use Rattle.split_joins.proofs.has_unit.Goals as goal

pub loop-u-preserved : goal.loop-u-preserved
loop-u-preserved c =
    let l = c.loop-u in
    let s = c.args.units.now in
    let p = λ (u : ℕ). eqb u c.args.unit in
    or_assoc l.any (p (get_or s l.u-index 0)) (some p (drop (l.u-index + 1) s)) ∙ ap (λ (t : Bool). l.any || t) (sym (some_turn p s l.u-index 0 c.loop-u-test.true)) ∙ l.invariant

pub returns : goal.returns
returns c =
    let l = c.loop-u in
    sym (or-false l.any) ∙ ap (λ (t : Bool). l.any || t) (sym (some-none (λ (u : ℕ). eqb u c.args.unit) c.args.units.now l.u-index c.loop-u-test.false)) ∙ l.invariant
