-- `entry_questions::put_number` meets its contract: the output is cleared, and an accepted number that fits is put at its front. Assumes nothing.
use Prim.Native.Nat.{ℕ}
use mathlib.Core.Path.{refl, ap, ◌∙◌}
use mathlib.Core.List.{List}
use native.Mathlib.Omega.{arith}
use lib.Seq.{sets}
use Rattle.obj.specs.Answers.{word}
use Rattle.obj.proofs.Errors.{is_err}
use Rattle.fields.specs.Fields.{enc32}
use Rattle.entry_questions.proofs.Numbers.{refused_leaves, put_leaves, none_leaves}
use Rattle.entry_questions.proofs.put_number.Goals as goal

pub returns-in_err-n : goal.returns-in_err-n
returns-in_err-n c = refused_leaves c.args.r c.args.out.now _ c.in_err-n.was (ap word (is_err _ c.from_residual.ensures.1)) c.clear_from.ensures

pub returns-then-out-ge4 : goal.returns-then-out-ge4
returns-then-out-ge4 c =
    let a = c.args in
    put_leaves a.r a.out.now _ c.in_ok-n.was refl (omega (arith, c.if-out-ge4.true, c.clear_from.auto.out)) (c.put.ensures ∙ ap (λ (l : List ℕ). sets l 0 (enc32 c.in_ok-n.n)) c.clear_from.ensures)

pub returns-else-out-ge4 : goal.returns-else-out-ge4
returns-else-out-ge4 c =
    let a = c.args in
    none_leaves a.r a.out.now _ c.in_ok-n.was refl (omega (arith, c.if-out-ge4.false, c.clear_from.auto.out)) c.clear_from.ensures
