-- `join_pieces::join` meets its contract. Each return is the definition's; what was laid is compared, and is then the joined bytes.
-- Assumes nothing.
use native.Mathlib.Omega.{arith}
use mathlib.Core.Path.{refl, sym, ◌∙◌}
use Rattle.stage_tables.specs.StageTables.{stage_sections}
use Rattle.piece_records.specs.Records.{parts_at}
use Rattle.join_pieces.proofs.Laws.{base_all}
use Rattle.join_pieces.proofs.Joining.{is_80, is_82, is_83, is_joined, after_long, after_roomy, after_differ, laid_is, joins_refused, joins_accepted}
use Rattle.join_pieces.proofs.join.Goals as goal

pub returns-then-out-total : goal.returns-then-out-total
returns-then-out-total c =
    let total = base_all c.base_of-total.ensures in
    joins_refused c.refuse.ensures (is_80 _ _ _ (omega (arith, c.if-out-total.true))) refl

pub returns-then-any_outside : goal.returns-then-any_outside
returns-then-any_outside c =
    let total = base_all c.base_of-total.ensures in
    joins_refused c.refuse-then-any_outside.ensures
    (is_82 _ _ _ (omega (arith, c.if-out-total.false)) (sym c.any_outside.ensures ∙ c.if-any_outside.true)) refl

pub lay_over_zeros-requires : goal.lay_over_zeros-requires
lay_over_zeros-requires c =
    (c.requires.0, c.requires.1, sym c.any_outside.ensures ∙ c.if-any_outside.false, base_all c.base_of-total.ensures, c.if-out-total.false)

pub any_unlike-requires : goal.any_unlike-requires
any_unlike-requires c =
    let a = c.args in
    let none = sym c.any_outside.ensures ∙ c.if-any_outside.false in
    let roomy = after_roomy (stage_sections a.sections.now) (parts_at a.n a.b.now 0) a.out.now _ (base_all c.base_of-total.ensures) c.if-out-total.false none c.lay_over_zeros.ensures in
    roomy

pub returns-then-any_unlike : goal.returns-then-any_unlike
returns-then-any_unlike c =
    let a = c.args in
    let heads = stage_sections a.sections.now in
    let parts = parts_at a.n a.b.now 0 in
    let total = base_all c.base_of-total.ensures in
    let left = c.if-out-total.false in
    let none = sym c.any_outside.ensures ∙ c.if-any_outside.false in
    let laid = c.lay_over_zeros.ensures in
    joins_refused c.refuse-then-any_unlike.ensures
    (is_83 _ _ _ (omega arith) none (after_differ heads parts a.out.now _ total left none laid c.any_unlike.ensures ∙ c.if-any_unlike.true))
    (after_long heads parts a.out.now _ total left none laid)

pub returns : goal.returns
returns c =
    let a = c.args in
    let heads = stage_sections a.sections.now in
    let parts = parts_at a.n a.b.now 0 in
    let total = base_all c.base_of-total.ensures in
    let left = c.if-out-total.false in
    let none = sym c.any_outside.ensures ∙ c.if-any_outside.false in
    let laid = c.lay_over_zeros.ensures in
    let agree = after_differ heads parts a.out.now _ total left none laid c.any_unlike.ensures ∙ c.if-any_unlike.false in
    joins_accepted _ refl (is_joined _ _ _ (omega arith) none agree) (after_long heads parts a.out.now _ total left none laid)
    (laid ∙ laid_is heads parts a.out.now _ total left none agree)
