-- Storing the numbers that are left from here on stores them all.
use Rattle.std.proofs.Common.{◌≡◌, ◌*◌, drop}
use Rattle.std.proofs.lemmas.List.Edits.{sets}
use Rattle.outputs.specs.Outputs.{halves}
use Rattle.outputs.proofs.put_halves.Given as goal

abbrev pub invariant-loop-i : goal.invariant-loop-i
invariant-loop-i l = sets l.out (2 * l.i) (halves (drop l.i l.numbers)) ≡ sets l.initial.out 0 (halves l.numbers)
