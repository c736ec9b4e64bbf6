-- `srecord_text::copied`. Invariant: the first i bytes are copied.
use mathlib.Core.Path.{◌≡◌}
use lib.ListN.{length, take, drop}
use Rattle.srecord_text.proofs.copied.Given as goal

abbrev pub invariant-loop-i : goal.invariant-loop-i
invariant-loop-i l = (length l.line ≡ 16) × (take l.i l.line ≡ take l.i (drop l.at l.out))
