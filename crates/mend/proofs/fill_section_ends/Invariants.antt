-- `mend::fill_section_ends`: the front of the column is that of the sections' ends. Assumes nothing.
use mathlib.Core.Path.{◌≡◌}
use mathlib.Core.List.{map}
use lib.ListN.{take}
use Rattle.obj.specs.Records.{section_at}
use Rattle.mend.specs.Mend.{section_ends_of}
use Rattle.mend.proofs.fill_section_ends.Given as goal

abbrev pub invariant-loop-k : goal.invariant-loop-k
invariant-loop-k l = take l.k l.end-items ≡ take l.k (section_ends_of (map (section_at l.heads.bytes.now) l.heads.places.now))
