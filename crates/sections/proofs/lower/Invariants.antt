-- `sections::lower`. Invariant: lowering the end so far over the first j symbols is lowering the given end over all, and the end so far
-- is not above the given one.
use Rattle.std.specs.Prelude.{◌≡◌, ◌≤◌, take, reverse}
use Rattle.sections.specs.Image.{image_of}
use Rattle.sections.specs.Ends.{lowered}
use Rattle.sections.proofs.lower.Given as goal

abbrev pub invariant-loop-j : goal.invariant-loop-j
invariant-loop-j l =
    (l.low ≤ l.end)
    × (lowered (image_of l.table.bytes.now l.table.places.now l.names.bytes.now l.names.places.now l.names.lengths.now) l.low (reverse (take l.j l.part)) ≡ lowered (image_of l.table.bytes.now l.table.places.now l.names.bytes.now l.names.places.now l.names.lengths.now) l.end (reverse l.part))
