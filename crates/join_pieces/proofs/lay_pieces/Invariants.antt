-- The loop of `join_pieces::lay_pieces`: laying the pieces that are left over what is there is laying all.
use Rattle.std.specs.Prelude.{◌≡◌, ◌-◌}
use Rattle.stage_tables.specs.StageTables.{stage_sections}
use Rattle.piece_records.specs.Records.{parts_at}
use Rattle.join.specs.Laying.{laid_over}
use Rattle.join_pieces.proofs.Passing.{Passing}
use Rattle.join_pieces.proofs.lay_pieces.Given as goal

abbrev pub invariant-loop-i : goal.invariant-loop-i
invariant-loop-i l =
    Passing l.pieces.count l.pieces.bytes.now l.at l._i
    × (laid_over (stage_sections l.pieces.sections.now) (parts_at (l.pieces.count - l._i) l.pieces.bytes.now l.at) l.out ≡ laid_over (stage_sections l.pieces.sections.now) (parts_at l.pieces.count l.pieces.bytes.now 0) l.initial.out)
