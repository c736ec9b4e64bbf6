-- `units::number_units`. Invariant: the column has, for each name, the last of the first k units that has it.
use Rattle.units.specs.Units.{unit_names}
use Rattle.units.proofs.Laws.{After}
use Rattle.units.proofs.number_units.Given as goal

abbrev pub invariant-loop-k : goal.invariant-loop-k
invariant-loop-k l = After (unit_names l.table.bytes.now l.table.places.now) l.column l.k
