-- `entry_write_srecords::write_tables`: what the checks refuse is the answer; else the pieces that were counted are whole, and are written.
use mathlib.Core.Path.{refl, sym, ◌∙◌}
use lib.ListN.{length}
use Rattle.obj.proofs.Errors.{is_err}
use Rattle.stage_tables.specs.StageTables.{stage_sections}
use Rattle.srecords.specs.Lines.{write_of}
use Rattle.head_tables.proofs.Laws.{sections_few, tables_passed, count_stops, count_goes, parts_whole, parts_few}
use Rattle.entry_join_pieces.proofs.Laws.{joins_as, writes_refused, writes_stopped, writes_made}
use Rattle.entry_write_srecords.specs.Entry.{write_srecords}
use Rattle.entry_write_srecords.proofs.Laws.{tables_ended, write_size}
use Rattle.entry_write_srecords.proofs.write_tables.Goals as goal

pub returns-in_err-n : goal.returns-in_err-n
unfolding write_srecords
returns-in_err-n c =
    let a = c.args in
    rw (is_err _ c.from_residual.ensures.1) (writes_refused (count_stops a.lent.now.name_ends.now a.lent.now.name_bytes.now a.lent.now.sections.now a.lent.now.pieces.now _ c.in_err-n.ensures) refl)

pub write-requires : goal.write-requires
write-requires c =
    let a = c.args in
    let counts = c.in_ok-n.ensures in
    let passed = tables_passed a.lent.now.name_ends.now a.lent.now.name_bytes.now a.lent.now.sections.now a.lent.now.pieces.now counts in (
      sections_few a.lent.now.name_ends.now a.lent.now.name_bytes.now a.lent.now.sections.now a.lent.now.pieces.now counts,
      parts_whole a.lent.now.name_ends.now a.lent.now.name_bytes.now a.lent.now.sections.now a.lent.now.pieces.now counts,
      tables_ended a.lent.now.name_ends.now a.lent.now.name_bytes.now a.lent.now.sections.now passed,
      parts_few a.lent.now.name_ends.now a.lent.now.name_bytes.now a.lent.now.sections.now a.lent.now.pieces.now counts,
    )

pub returns-in_err-write : goal.returns-in_err-write
unfolding write_srecords
returns-in_err-write c =
    let a = c.args in
    let same = count_goes a.lent.now.name_ends.now a.lent.now.name_bytes.now a.lent.now.sections.now a.lent.now.pieces.now _ c.in_ok-n.ensures in
    rw (is_err _ c.from_residual-in_err-write.ensures.1) (writes_stopped _ (joins_as same c.in_err-write.ensures))

pub lines_room-total-requires : goal.lines_room-total-requires
lines_room-total-requires c =
    let a = c.args in
    sections_few a.lent.now.name_ends.now a.lent.now.name_bytes.now a.lent.now.sections.now a.lent.now.pieces.now c.in_ok-n.ensures

pub returns : goal.returns
unfolding write_srecords
returns c =
    let a = c.args in
    let heads = stage_sections a.lent.now.sections.now in
    let same = count_goes a.lent.now.name_ends.now a.lent.now.name_bytes.now a.lent.now.sections.now a.lent.now.pieces.now (write_of heads (length a.lines.now)) c.in_ok-n.ensures in
    writes_made _ (joins_as same c.in_ok-write.ensures) (λ bytes q. c.lines_room-total.ensures ∙ sym (write_size heads _ _ bytes (same ∙ q)))
