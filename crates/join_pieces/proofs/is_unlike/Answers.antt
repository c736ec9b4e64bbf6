-- `join_pieces::is_unlike` meets its contract. The part that is compared is where the piece stands.
-- Assumes nothing.
use Rattle.join_pieces.proofs.Laws.{part_same}
use native.Mathlib.Omega.{arith}
use mathlib.Core.Path.{ap, ◌∙◌}
use mathlib.Core.Bool.{not}
use lib.ListN.{length}
use Rattle.join.proofs.Sizes.{inside, spot-fits}
use Rattle.stage_tables.specs.StageTables.{stage_sections}
use Rattle.piece_records.specs.Records.{part_at}
use Rattle.join.specs.Laying.{unlike}
use Rattle.join_pieces.proofs.is_unlike.Goals as goal

pub overflow_add-end : goal.overflow_add-end
overflow_add-end c =
    let a = c.args in
    let p = part_at a.pieces.now.bytes.now a.at in
    let f = spot-fits (stage_sections a.pieces.now.sections.now) p (inside (stage_sections a.pieces.now.sections.now) p (c.requires.0.one _ c.args.pieces.now.inside)) in
    omega (arith, f, c.spot_of-spot.ensures, ap length c.bytes_at-bytes.ensures, c.requires.1)

pub slice_bounds-same-end : goal.slice_bounds-same-end
slice_bounds-same-end c =
    let a = c.args in
    let p = part_at a.pieces.now.bytes.now a.at in
    let f = spot-fits (stage_sections a.pieces.now.sections.now) p (inside (stage_sections a.pieces.now.sections.now) p (c.requires.0.one _ c.args.pieces.now.inside)) in
    omega (arith, f, c.spot_of-spot.ensures, ap length c.bytes_at-bytes.ensures, c.requires.1)

pub returns : goal.returns
unfolding unlike
returns c = ap not (c.same.ensures ∙ part_same c.args.out.now c.bytes_at-bytes.ensures c.spot_of-spot.ensures)
