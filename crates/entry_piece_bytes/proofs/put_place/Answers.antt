-- `entry_piece_bytes::put_place` meets its contract: the output is cleared, and an accepted place that fits is put at its front. Assumes nothing.
use Prim.Native.Nat.{ℕ}
use mathlib.Core.Path.{refl, ap, ◌∙◌}
use mathlib.Core.List.{List}
use native.Mathlib.Omega.{arith}
use lib.Seq.{sets}
use Rattle.lists.specs.Rows.{clear_from}
use Rattle.lists.proofs.Stores.{sets_then}
use Rattle.obj.specs.Answers.{word}
use Rattle.obj.proofs.Errors.{is_err}
use Rattle.fields.specs.Fields.{enc32}
use Rattle.entry_piece_bytes.proofs.Leaving.{refused_leaves, put_leaves, none_leaves}
use Rattle.entry_piece_bytes.proofs.put_place.Goals as goal

pub returns-in_err-p : goal.returns-in_err-p
returns-in_err-p c = refused_leaves c.args.r c.args.out.now _ c.in_err-p.was (ap word (is_err _ c.from_residual.ensures.1)) c.clear_from.ensures

pub returns-then-out-ge8 : goal.returns-then-out-ge8
returns-then-out-ge8 c =
    let a = c.args in
    let p = c.in_ok-p.p in
    put_leaves a.r a.out.now _ c.in_ok-p.was refl (omega (arith, c.if-out-ge8.true, c.clear_from.auto.out))
    (sets_then (clear_from 0 0 a.out.now) 0 (enc32 p.offset) 4 (enc32 p.length) c.put-then-out-ge8.ensures
    (c.put.ensures ∙ ap (λ (l : List ℕ). sets l 0 (enc32 p.offset)) c.clear_from.ensures) refl)

pub returns-else-out-ge8 : goal.returns-else-out-ge8
returns-else-out-ge8 c =
    let a = c.args in
    none_leaves a.r a.out.now _ c.in_ok-p.was refl (omega (arith, c.if-out-ge8.false, c.clear_from.auto.out)) c.clear_from.ensures
