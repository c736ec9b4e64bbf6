-- So many of the last bytes stand once more, in the buffer that was lent.
use Rattle.std.proofs.Common.{◌≡◌, ◌≤◌, length}
use Rattle.program_input.specs.Cases.{gathered, again}
use Rattle.program_input.proofs.case_reader.CaseReader.again.Given as goal

abbrev pub invariant-loop-i : goal.invariant-loop-i
invariant-loop-i l =
    (l.self.bytes.buffer.ghost_name ≡ l.initial.self.bytes.buffer.ghost_name)
    × (length l.self.bytes.buffer.now ≡ length l.initial.self.bytes.buffer.now)
    × (l._i ≤ l.width)
    × (gathered l.self.bytes ≡ again (length l.initial.self.bytes.buffer.now) l.width l._i (gathered l.initial.self.bytes))
