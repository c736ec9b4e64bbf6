-- `join_pieces::is_outside` meets its contract. A section that is not there is 82, and else the tests are those of the definition.
-- Assumes nothing.
use Rattle.piece_records.specs.Records.{part_at}
use native.Mathlib.Omega.{arith}
use Rattle.join_pieces.proofs.Laws.{outside_past, outside_there}
use Rattle.join_pieces.proofs.is_outside.Goals as goal

pub returns-then-sections-n : goal.returns-then-sections-n
returns-then-sections-n c =
    let a = c.args in
    outside_past a.sections.now (part_at a.b.now a.at) (omega (arith, c.head_at-p.ensures.section))

pub returns : goal.returns
returns c =
    let a = c.args in
    let h = c.head_at-p.ensures in
    rw (c.is_bss.ensures, c.end.ensures, c.end-2.ensures) (outside_there a.sections.now (part_at a.b.now a.at) h.section c.head_of-s.ensures h.address h.«length»)
