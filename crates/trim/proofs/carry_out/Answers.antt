-- `trim::carry_out` meets its contract: the first refusal ends it.
use mathlib.Core.Path.{sym, ◌∙◌}
use Prim.Native.Nat.{◌+◌}
use native.Mathlib.Omega.{arith}
use lib.ListN.{take, drop}
use lib.Seq.{length-take-le}
use Rattle.obj.proofs.Errors.{same_err}
use Rattle.splits.specs.Table.{ends_rows}
use Rattle.splits.proofs.Lent.{ends_still}
use Rattle.trim.specs.Trim.{carry_from}
use Rattle.trim.proofs.Answers.{seen-stops, seen_goes}
use Rattle.trim.proofs.Carry.{carry_turn, carry_ended}
use Rattle.trim.proofs.carry_out.Goals as goal

pub carry_one-requires : goal.carry_one-requires
carry_one-requires c = omega (arith, c.loop-k.invariant.1.count, length-take-le c.args.table.now.count c.args.falls.now c.requires, c.loop-k-test.true)

pub returns-in_err-carry_one-clause-rows : goal.returns-in_err-carry_one-clause-rows
returns-in_err-carry_one-clause-rows c =
    let a = c.args in
    let l = c.loop-k in
    rw (same_err c.from_residual.result c.carry_one.result c.from_residual.ensures.1 c.in_err-carry_one.was)
    (seen-stops _ _ _ _ c.carry_one.ensures.rows _ c.in_err-carry_one.was
    ∙ sym (carry_turn (take a.table.now.count a.falls.now) l.k (ends_rows l.table) c.loop-k-test.true)
    ∙ l.invariant.0)

pub returns-in_err-carry_one-clause-others : goal.returns-in_err-carry_one-clause-others
returns-in_err-carry_one-clause-others c = ends_still c.loop-k.invariant.1 c.carry_one.ensures.others

pub loop-k-preserved : goal.loop-k-preserved
loop-k-preserved c =
    let l = c.loop-k in
    let falls = take c.args.table.now.count c.args.falls.now in (
      sym (seen_goes _ _ _ (carry_from (l.k + 1) (drop (l.k + 1) falls)) c.carry_one.ensures.rows c.in_ok-carry_one.was)
          ∙ sym (carry_turn falls l.k (ends_rows l.table) c.loop-k-test.true)
          ∙ l.invariant.0,
      ends_still l.invariant.1 c.carry_one.ensures.others,
    )

pub returns-clause-rows : goal.returns-clause-rows
returns-clause-rows c =
    let l = c.loop-k in
    sym (carry_ended (take c.args.table.now.count c.args.falls.now) l.k (ends_rows l.table) c.loop-k-test.false) ∙ l.invariant.0
