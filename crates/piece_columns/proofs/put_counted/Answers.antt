-- `piece_columns::put_counted` meets its contract: the unit's count is raised, and the piece is put behind the others.
use native.Mathlib.Omega.{arith}
use Rattle.pieces.specs.Pieces.{pieces_in}
use Rattle.piece_columns.proofs.Counts.{counted_le, counted_more}
use Rattle.piece_columns.proofs.put_counted.Goals as goal

pub overflow_add-counts : goal.overflow_add-counts
overflow_add-counts c = rw c.from.ensures (omega (arith, counted_le _ _ _ c.requires.1 c.args.p.unit c.requires.0, c.requires.3))

pub returns : goal.returns
unfolding pieces_in
returns c =
    rw c.from.ensures
    (record { more = c.put_record.ensures; counted = counted_more _ _ _ c.requires.1 _ c.args.p c.requires.0 c.put_record.ensures })
