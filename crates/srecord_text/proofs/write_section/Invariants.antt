-- `srecord_text::write_section` meets its contract. Invariant: `Left`, that writing the lines of what is left is writing all, and that it is still there to be read.
-- Assumes nothing.
use Prim.Native.Nat.{◌-◌}
use Rattle.srecord_text.proofs.Laws.{Left}
use Rattle.srecord_text.proofs.write_section.Given as goal

abbrev pub invariant-loop-done : goal.invariant-loop-done
invariant-loop-done l = Left l.initial.out l.to l.from l.address l.size l.out l.done l.at

abbrev pub decreases-loop-done : goal.decreases-loop-done
decreases-loop-done l = l.size - l.done
