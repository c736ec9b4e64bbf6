-- `srecord_lines::put_line` meets its contract. The three parts follow each other.
-- Assumes nothing.
use mathlib.Core.Path.{refl}
use Rattle.srecord_lines.proofs.Laws.{line_put}
use Rattle.srecord_lines.proofs.put_line.Goals as goal

pub returns : goal.returns
returns c =
    let a = c.args in
    line_put a.out.now a.at a.kind a.address a.bytes.now c.put_head.ensures c.put_hexes.ensures c.put_tail.ensures refl c.check_of-check.ensures
