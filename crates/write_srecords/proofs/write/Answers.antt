-- `write_srecords::write` meets its contract. Each return is the definition's.
-- Assumes nothing.
use native.Mathlib.Omega.{arith}
use mathlib.Core.Path.{◌≡◌, refl, sym, ap, ◌∙◌}
use Prim.Native.Nat.{ℕ}
use lib.ListN.{length, drop, length-append, length-drop}
use mathlib.Core.List.{◌++◌}
use Rattle.stage_tables.specs.StageTables.{stage_sections}
use Rattle.piece_records.specs.Records.{parts_at}
use Rattle.srecords.specs.Lines.{lines_of}
use Rattle.join_pieces.proofs.Joining.{joins_refused, joins_accepted}
use Rattle.write_srecords.proofs.Laws.{is_87, is_82, is_83, is_80, is_written, room_is}
use Rattle.write_srecords.proofs.write.Goals as goal

pub returns-then-any_share : goal.returns-then-any_share
returns-then-any_share c =
    let a = c.args in
    let heads = stage_sections a.sections.now in
    let parts = parts_at a.n a.b.now 0 in
    joins_refused c.refuse.ensures (is_87 heads _ parts (sym c.any_share.ensures ∙ c.if-any_share.true)) refl

pub returns-then-any_outside : goal.returns-then-any_outside
returns-then-any_outside c =
    let a = c.args in
    let heads = stage_sections a.sections.now in
    let parts = parts_at a.n a.b.now 0 in
    joins_refused c.refuse-then-any_outside.ensures
    (is_82 heads _ parts (sym c.any_share.ensures ∙ c.if-any_share.false) (sym c.any_outside.ensures ∙ c.if-any_outside.true)) refl

pub returns-then-any_differ : goal.returns-then-any_differ
returns-then-any_differ c =
    let a = c.args in
    let heads = stage_sections a.sections.now in
    let parts = parts_at a.n a.b.now 0 in
    joins_refused c.refuse-then-any_differ.ensures
    (is_83 heads _ parts (sym c.any_share.ensures ∙ c.if-any_share.false) (sym c.any_outside.ensures ∙ c.if-any_outside.false)
    (sym c.any_differ.ensures ∙ c.if-any_differ.true)) refl

pub returns-then-out-room : goal.returns-then-out-room
returns-then-out-room c =
    let a = c.args in
    let heads = stage_sections a.sections.now in
    let parts = parts_at a.n a.b.now 0 in
    joins_refused c.refuse-then-out-room.ensures
    (is_80 heads _ parts (sym c.any_share.ensures ∙ c.if-any_share.false) (sym c.any_outside.ensures ∙ c.if-any_outside.false)
    (sym c.any_differ.ensures ∙ c.if-any_differ.false) (omega (arith, c.lines_room-room.ensures, c.if-out-room.true))) refl

pub returns : goal.returns
returns c =
    let a = c.args in
    let heads = stage_sections a.sections.now in
    let parts = parts_at a.n a.b.now 0 in
    let room = c.lines_room-room.ensures in
    let fits = c.if-out-room.false in
    let laid = c.lay_lines.ensures in
    let long = room_is heads parts in
    joins_accepted (lines_of heads parts) refl
    (is_written heads _ parts (sym c.any_share.ensures ∙ c.if-any_share.false) (sym c.any_outside.ensures ∙ c.if-any_outside.false)
    (sym c.any_differ.ensures ∙ c.if-any_differ.false) (omega (arith, room, fits)))
    (ap length laid ∙ (let z : length (lines_of heads parts ++ drop c.lines_room-room.result a.out.now) ≡ length a.out.now = omega (arith, length-append (lines_of heads parts) (drop c.lines_room-room.result a.out.now), length-drop c.lines_room-room.result a.out.now, long, room, fits) in z))
    (laid ∙ ap (λ (k : ℕ). lines_of heads parts ++ drop k a.out.now) (room ∙ sym long))
