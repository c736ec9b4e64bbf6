-- `lines::Text::put_signed` meets its contract: a sign below zero, then the digits of the number without it.
-- Assumes nothing.
use Rattle.std.proofs.Common.{refl, [], ◌∷◌, arith}
use mir.Facts.{to_z-of_z}
use Rattle.lines.proofs.Puts.{put_sets, put_more}
use Rattle.lines.proofs.Signs.{digits_negative, digits_number}
use Rattle.lines.proofs.Text.put_signed.Goals as goal

pub returns-then-v-lt0 : goal.returns-then-v-lt0
returns-then-v-lt0 c =
    let h = c.requires in
    let n = rw (to_z-of_z c.ranges.v) at c.unsigned_abs-n.ensures.value in
    rw (digits_negative c.args.v (rw (to_z-of_z c.ranges.v) at c.if-v-lt0.true), ← n)
    record { put = put_more [] 45 (put_sets c.args.self.now.at (45 ∷ []) refl (omega arith) refl) c.put_decimal.ensures.put; lent = c.put_decimal.ensures.lent }

pub returns : goal.returns
returns c =
    let n = rw (to_z-of_z c.ranges.v) at c.unsigned_abs-n.ensures.value in
    rw (digits_number c.args.v (rw (to_z-of_z c.ranges.v) at c.if-v-lt0.false), ← n) c.put_decimal-2.ensures
