-- `write_srecords::write_lines` meets its contract. Invariant: `Left`, that writing the lines of the sections that are left is writing all.
-- Assumes nothing.
use Rattle.stage_tables.specs.StageTables.{stage_sections}
use Rattle.write_srecords.proofs.Laws.{Left}
use Rattle.write_srecords.proofs.write_lines.Given as goal

abbrev pub invariant-loop-k : goal.invariant-loop-k
invariant-loop-k l = Left (stage_sections l.sections) l.initial.out l.from l.out l.k l.at l.read
