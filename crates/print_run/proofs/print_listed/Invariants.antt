-- `print_run::print_listed` ends: the cursor is one of the run, what was written and what is left are the listing, and the measure is what is left of it, of which each line
-- takes some bytes.
use Rattle.std.proofs.Common.{length}
use Rattle.listing.specs.Cursor.{rest, Valid}
use Rattle.listing.specs.Tables.{run_of}
use Rattle.listing.specs.Lent.{tables_of}
use Rattle.print_run.proofs.Lines.{Listed}
use Rattle.print_run.proofs.print_listed.Given as goal

abbrev pub invariant-loop-length : goal.invariant-loop-length
invariant-loop-length g l =
    Valid (length l.tables.units.now.places.now) l.cursor
    × Listed (run_of (tables_of l.tables.base.now l.tables.added.now l.tables.symbols.now l.tables.relocs.now l.tables.units.now l.tables.lists.now)) (g.W.Write.contents l.initial.out) l.cursor (g.W.Write.contents l.out)

abbrev pub decreases-loop-length : goal.decreases-loop-length
decreases-loop-length g l = length (rest (run_of (tables_of l.tables.base.now l.tables.added.now l.tables.symbols.now l.tables.relocs.now l.tables.units.now l.tables.lists.now)) l.cursor)
