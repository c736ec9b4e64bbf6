-- Each answer of a run has its own printing.
use Rattle.std.proofs.Common.{subst}
use Rattle.listing.specs.Lent.{columns_of}
use Rattle.print_run.specs.Printed.{PrintableIf}
use Rattle.print_run.proofs.print_ran.Goals as goal

pub print_done-requires : goal.print_done-requires
print_done-requires g c =
    let a = c.args in
    let t = a.tables.now in
    let q =
    subst (PrintableIf a.file.now a.counts a.columns.now.places.now a.columns.now.lengths.now (columns_of a.added.now) t.units.now t.pieces.now t.entries.now t.offsets.now)
    c.in-Ok.is c.requires
    in
    q.1
