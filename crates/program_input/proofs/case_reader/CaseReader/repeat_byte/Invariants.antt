-- The last byte stands so many times more, in the buffer that was lent, and is still the last.
use Rattle.std.proofs.Common.{◌≡◌, ◌≤◌, ◌-◌, length}
use Rattle.program_input.specs.Cases.{gathered, repeated, before}
use Rattle.program_input.proofs.case_reader.CaseReader.repeat_byte.Given as goal

abbrev pub invariant-loop-time : goal.invariant-loop-time
invariant-loop-time l =
    (l.self.bytes.buffer.ghost_name ≡ l.initial.self.bytes.buffer.ghost_name)
    × (length l.self.bytes.buffer.now ≡ length l.initial.self.bytes.buffer.now)
    × (1 ≤ l._time)
    × (l._time - 1 ≤ l.count - 1)
    × (l.byte ≡ before 1 (gathered l.self.bytes))
    × (gathered l.self.bytes ≡ repeated (length l.initial.self.bytes.buffer.now) 1 (l._time - 1) (gathered l.initial.self.bytes))
