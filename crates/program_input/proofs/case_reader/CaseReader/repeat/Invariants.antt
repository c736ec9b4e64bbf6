-- The last bytes stand so many times more, in the buffer that was lent.
use Rattle.std.proofs.Common.{◌≡◌, ◌≤◌, ◌-◌, length}
use Rattle.program_input.specs.Cases.{gathered, repeated}
use Rattle.program_input.proofs.case_reader.CaseReader.repeat.Given as goal

abbrev pub invariant-loop-i : goal.invariant-loop-i
invariant-loop-i l =
    (l.self.bytes.buffer.ghost_name ≡ l.initial.self.bytes.buffer.ghost_name)
    × (length l.self.bytes.buffer.now ≡ length l.initial.self.bytes.buffer.now)
    × (1 ≤ l._i)
    × (l._i - 1 ≤ l.count - 1)
    × (gathered l.self.bytes ≡ repeated (length l.initial.self.bytes.buffer.now) l.width (l._i - 1) (gathered l.initial.self.bytes))
