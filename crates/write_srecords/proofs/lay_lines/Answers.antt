-- `write_srecords::lay_lines` meets its contract. The joined bytes stand at the end of the room, and the lines are written over it.
-- Assumes nothing.
use mathlib.Core.Path.{◌∙◌}
use Rattle.join_pieces.proofs.Laws.{base_all}
use Rattle.write_srecords.proofs.Laws.{total_fits, lent_room, mid_there, mid_behind, lines_laid}
use Rattle.write_srecords.proofs.lay_lines.Goals as goal

pub overflow_sub-from : goal.overflow_sub-from
overflow_sub-from c = total_fits c.requires (base_all c.base_of-total.ensures)

pub lay_over_zeros-requires : goal.lay_over_zeros-requires
lay_over_zeros-requires c =
    let w = c.requires in
    let total = base_all c.base_of-total.ensures in
    (w.few, w.whole, w.all_in, total, lent_room w total)

pub write_lines-requires : goal.write_lines-requires
write_lines-requires c =
    let w = c.requires in
    let total = base_all c.base_of-total.ensures in
    let laid = c.lay_over_zeros.ensures in
    record { few = w.few; ended = w.ended; there = mid_there w total _ laid; behind = mid_behind w total _ laid }

pub returns : goal.returns
returns c = c.write_lines.ensures ∙ lines_laid c.requires (base_all c.base_of-total.ensures) _ c.lay_over_zeros.ensures
