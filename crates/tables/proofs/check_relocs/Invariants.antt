-- The loop of `tables::check_relocs`: no record before i has a fault, and the column holds what the records before i leave.
use Rattle.std.proofs.Common.{length}
use Rattle.tables.specs.Records.{sections_in, relocs_in, reloc_fault}
use Rattle.tables.proofs.Loops.{Going}
use Rattle.tables.proofs.Floors.{Floors}
use Rattle.tables.proofs.check_relocs.Given as goal

abbrev pub invariant-loop-i : goal.invariant-loop-i
invariant-loop-i l = record {
  going : Going (reloc_fault (sections_in l.heads.bytes.now l.heads.places.now) l.symbols (relocs_in l.table.bytes.now l.table.places.now)) (length l.table.places.now) l.i;
  left : Floors (relocs_in l.table.bytes.now l.table.places.now) l.i l.floors;
}
