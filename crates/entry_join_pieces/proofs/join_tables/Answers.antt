-- `entry_join_pieces::join_tables`: what the checks refuse is the answer; else the pieces that were counted are whole, and are joined.
use native.Mathlib.Omega.{arith}
use mathlib.Core.Path.{refl, sym, ◌∙◌}
use lib.ListN.{length}
use Rattle.obj.proofs.Errors.{is_err}
use Rattle.stage_tables.specs.StageTables.{stage_sections}
use Rattle.join.specs.Join.{join_of}
use Rattle.head_tables.proofs.Laws.{sections_few, count_stops, count_goes, parts_whole}
use Rattle.join_pieces.proofs.Laws.{base_all}
use Rattle.entry_join_pieces.specs.Entry.{join_pieces}
use Rattle.entry_join_pieces.proofs.Laws.{joins_as, join_size, writes_refused, writes_stopped, writes_made}
use Rattle.entry_join_pieces.proofs.join_tables.Goals as goal

pub returns-in_err-n : goal.returns-in_err-n
unfolding join_pieces
returns-in_err-n c =
    let a = c.args in
    rw (is_err _ c.from_residual.ensures.1) (writes_refused (count_stops a.lent.now.name_ends.now a.lent.now.name_bytes.now a.lent.now.sections.now a.lent.now.pieces.now _ c.in_err-n.ensures) refl)

pub join-requires : goal.join-requires
join-requires c =
    let a = c.args in
    let counts = c.in_ok-n.ensures in
    (sections_few a.lent.now.name_ends.now a.lent.now.name_bytes.now a.lent.now.sections.now a.lent.now.pieces.now counts, parts_whole a.lent.now.name_ends.now a.lent.now.name_bytes.now a.lent.now.sections.now a.lent.now.pieces.now counts)

pub returns-in_err-join : goal.returns-in_err-join
unfolding join_pieces
returns-in_err-join c =
    let a = c.args in
    let same = count_goes a.lent.now.name_ends.now a.lent.now.name_bytes.now a.lent.now.sections.now a.lent.now.pieces.now _ c.in_ok-n.ensures in
    rw (is_err _ c.from_residual-in_err-join.ensures.1) (writes_stopped _ (joins_as same c.in_err-join.ensures))

pub base_of-total-requires : goal.base_of-total-requires
base_of-total-requires c =
    let a = c.args in
    let few = sections_few a.lent.now.name_ends.now a.lent.now.name_bytes.now a.lent.now.sections.now a.lent.now.pieces.now c.in_ok-n.ensures in
    (omega arith, few)

pub returns : goal.returns
unfolding join_pieces
returns c =
    let a = c.args in
    let heads = stage_sections a.lent.now.sections.now in
    let same = count_goes a.lent.now.name_ends.now a.lent.now.name_bytes.now a.lent.now.sections.now a.lent.now.pieces.now (join_of heads (length a.joined.now)) c.in_ok-n.ensures in
    writes_made _ (joins_as same c.in_ok-join.ensures) (λ bytes q. base_all c.base_of-total.ensures ∙ sym (join_size heads _ _ bytes (same ∙ q)))
