-- A refused size has no places; an accepted one has few enough records for the column, whose front is filled.
use Rattle.std.proofs.Common.{length, length-take, ◌/◌, sym, ◌∙◌, arith}
use lib.Seq.{length-take-le}
use Rattle.lists.proofs.Outcomes.{not_both}
use Rattle.obj.proofs.Errors.{is_err}
use Rattle.tables.proofs.Laws.{size_passed}
use Rattle.stage_tables.proofs.Laws.{places_fit, front_filled}
use Rattle.stage_tables.proofs.fill_table.Goals as goal

pub returns-in_err-table_size : goal.returns-in_err-table_size
returns-in_err-table_size c =
    let said = c.in_err-table_size.ensures in
    rw (is_err _ c.from_residual.ensures.1) (record { said = said; filled = λ q. absurd (not_both (said ∙ q)) })

pub slice_bounds-fill_places-end : goal.slice_bounds-fill_places-end
slice_bounds-fill_places-end c =
    let few = (size_passed _ _ _ (sym c.in_ok-table_size.ensures)).1 in
    omega (arith, few, c.requires.2.long)

pub slice_bounds-fill_places-end-2 : goal.slice_bounds-fill_places-end-2
slice_bounds-fill_places-end-2 c =
    let few = (size_passed _ _ _ (sym c.in_ok-table_size.ensures)).1 in
    sym (length-take-le _ _ (omega (arith, few, c.requires.2.long)))

pub fill_places-requires : goal.fill_places-requires
fill_places-requires c =
    let few = (size_passed _ _ _ (sym c.in_ok-table_size.ensures)).1 in
    simp length-take (places_fit _ _ c.requires.1 (omega (arith, few, c.requires.2.few)))

pub returns : goal.returns
returns c =
    let a = c.args in
    let said = c.in_ok-table_size.ensures in
    let few = (size_passed _ _ _ (sym said)).1 in
    let n = length-take-le (length a.b.now / a.width) a.places.now (omega (arith, few, c.requires.2.long)) in
    record { said = said; filled = λ _. front_filled a.width _ c.fill_places.new.places _ c.fill_places.ensures n }
