-- `import_rows::take_sections` meets its contract. Invariant: the numbers so far are stored, as many as the column has places for. Assumes nothing.
use Rattle.import_rows.proofs.Laws.{Stored}
use Rattle.import_rows.proofs.take_sections.Given as goal

abbrev pub invariant-loop-k : goal.invariant-loop-k
invariant-loop-k l = Stored l.column l.yielded l.j
