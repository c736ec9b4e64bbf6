-- `entry_piece_bytes::find_within` meets its contract: each return is the definition's, and what passed keeps the sum within four bytes.
-- Assumes nothing.
use Rattle.std.specs.Prelude.{Result}
use Rattle.obj.specs.Answers.{meaning}
use Rattle.obj.specs.declared.Refusal.{Refusal}
use Prim.Native.Nat.{ℕ, ◌+◌, ◌-◌}
use mathlib.Core.Path.{sym, ap, ◌∙◌}
use native.Mathlib.Omega.{arith}
use borrow.Author.Tests.{eqb-true, eqb-false}
use lib.ListN.{length}
use Rattle.lists.specs.Outcome.{accepted}
use Rattle.tables.specs.Records.{image_places_of}
use Rattle.entry_piece_bytes.specs.declared.Place.{Place}
use Rattle.entry_piece_bytes.specs.Entry.{reach}
use Rattle.entry_piece_bytes.proofs.Steps.{cut, cut_is, beyond, lies, placed-none, placed-some, bytes_lie, not_below, not_above}
use Rattle.entry_piece_bytes.proofs.find_within.Goals as goal

pub returns-then-bytes_cut : goal.returns-then-bytes_cut
returns-then-bytes_cut c =
    let a = c.args in
    let places = image_places_of a.lent.now.places.now in
    let image = length a.lent.now.image.now in
    ap (λ (x : Result Place Refusal). meaning x) c.refuse.ensures ∙ sym (cut places image a.head a.p (cut_is places image a.head a.p c.bytes_cut.ensures c.reach_of.ensures c.if-bytes_cut.true))

pub returns-then-is_outside : goal.returns-then-is_outside
returns-then-is_outside c =
    let a = c.args in
    let places = image_places_of a.lent.now.places.now in
    let image = length a.lent.now.image.now in
    let whole = cut_is places image a.head a.p c.bytes_cut.ensures c.reach_of.ensures c.if-bytes_cut.false in
    ap (λ (x : Result Place Refusal). meaning x) c.refuse-then-is_outside.ensures
    ∙ sym (beyond places image a.head a.p whole (sym c.is_outside.ensures ∙ c.if-is_outside.true))

pub returns-then-is_bss : goal.returns-then-is_bss
returns-then-is_bss c =
    let a = c.args in
    let places = image_places_of a.lent.now.places.now in
    let image = length a.lent.now.image.now in
    let whole = cut_is places image a.head a.p c.bytes_cut.ensures c.reach_of.ensures c.if-bytes_cut.false in
    let inside = sym c.is_outside.ensures ∙ c.if-is_outside.false in
    ap accepted (sym (placed-none _ a.head a.p (eqb-true _ _ (sym c.is_bss.ensures ∙ c.if-is_bss.true)))) ∙ sym (lies places image a.head a.p whole inside)

pub part_of-part-requires : goal.part_of-part-requires
part_of-part-requires c =
    let a = c.args in
    let places = image_places_of a.lent.now.places.now in
    let image = length a.lent.now.image.now in
    let whole = cut_is places image a.head a.p c.bytes_cut.ensures c.reach_of.ensures c.if-bytes_cut.false in
    let inside = sym c.is_outside.ensures ∙ c.if-is_outside.false in
    let bytes = bytes_lie places (reach image) a.p.section a.head whole (eqb-false _ _ (sym c.is_bss.ensures ∙ c.if-is_bss.false)) in
    (omega (arith, bytes, c.image_place-start.ensures), not_below a.head a.p inside, not_above a.head a.p inside)

pub overflow_add-result : goal.overflow_add-result
overflow_add-result c =
    let a = c.args in
    let places = image_places_of a.lent.now.places.now in
    let image = length a.lent.now.image.now in
    let whole = cut_is places image a.head a.p c.bytes_cut.ensures c.reach_of.ensures c.if-bytes_cut.false in
    let inside = sym c.is_outside.ensures ∙ c.if-is_outside.false in
    let bytes = bytes_lie places (reach image) a.p.section a.head whole (eqb-false _ _ (sym c.is_bss.ensures ∙ c.if-is_bss.false)) in
    omega (arith, bytes, c.image_place-start.ensures, not_below a.head a.p inside, not_above a.head a.p inside)

pub returns : goal.returns
returns c =
    let a = c.args in
    let places = image_places_of a.lent.now.places.now in
    let image = length a.lent.now.image.now in
    let whole = cut_is places image a.head a.p c.bytes_cut.ensures c.reach_of.ensures c.if-bytes_cut.false in
    let inside = sym c.is_outside.ensures ∙ c.if-is_outside.false in
    ap (λ (m : ℕ). accepted (record { offset = c.image_place-start.result + (a.p.address - a.head.address); length = m })) c.part_of-part.ensures
    ∙ ap (λ (m : ℕ). accepted (record { offset = m + (a.p.address - a.head.address); length = a.p.size })) c.image_place-start.ensures
    ∙ ap accepted (sym (placed-some _ a.head a.p (eqb-false _ _ (sym c.is_bss.ensures ∙ c.if-is_bss.false))))
    ∙ sym (lies places image a.head a.p whole inside)
