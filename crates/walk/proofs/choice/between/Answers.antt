-- `walk::choice::between` meets its contract: the tests are the definition's, in its order, over the section's head and bytes.
use mathlib.Core.Path.{sym, ap, ◌∙◌}
use native.Mathlib.Omega.{arith}
use Rattle.obj.specs.Answers.{meaning}
use Rattle.sections.specs.Bytes.{bytes_of, all_zero}
use Rattle.walk.proofs.Deciding.{between_none, between-outside, between_zero, between_nonzero}
use Rattle.walk.proofs.choice.between.Goals as goal

pub returns-then-to-from : goal.returns-then-to-from
returns-then-to-from c = between_none _ _ _ _ _ c.if-to-from.true

pub returns-then-not-is_inside : goal.returns-then-not-is_inside
returns-then-not-is_inside c =
    ap meaning c.refuse_at.ensures ∙ between-outside _ _ _ _ _ (let h = c.if-to-from.false in omega arith) _ c.record-head.ensures (sym c.is_inside.ensures ∙ c.if-not-is_inside.true)

pub returns-then-is_zero : goal.returns-then-is_zero
returns-then-is_zero c =
    let a = c.args in
    between_zero _ _ _ _ _ (let h = c.if-to-from.false in omega arith) _ c.record-head.ensures (sym c.is_inside.ensures ∙ c.if-not-is_inside.false) _
    (c.section_bytes-bytes.ensures ∙ ap (bytes_of a.image.now.bytes.now a.image.now.places.now a.n) c.record-head.ensures)
    (ap all_zero (sym c.piece_bytes-part.ensures) ∙ sym c.is_zero.ensures ∙ c.if-is_zero.true)

pub returns : goal.returns
returns c =
    let a = c.args in
    ap meaning c.refuse_at-2.ensures
    ∙ between_nonzero _ _ _ _ _ (let h = c.if-to-from.false in omega arith) _ c.record-head.ensures (sym c.is_inside.ensures ∙ c.if-not-is_inside.false) _
    (c.section_bytes-bytes.ensures ∙ ap (bytes_of a.image.now.bytes.now a.image.now.places.now a.n) c.record-head.ensures)
    (ap all_zero (sym c.piece_bytes-part.ensures) ∙ sym c.is_zero.ensures ∙ c.if-is_zero.false)
