-- What the run of the file left can be printed, and its text is what the file's run prints.
use Rattle.splits.specs.Table.{columns_in}
use Rattle.run_file.specs.RunFile.{beside_in}
use Rattle.print_run.proofs.Ended.{runs_printable, printed}
use Rattle.print_run.proofs.print_in.Goals as goal

pub print_ran-requires : goal.print_ran-requires
print_ran-requires g c =
    let r = c.run_file-r in
    let n = c.names.ensures in
    let l = r.ensures.lent in
    let long = r.new.columns.long.loader in
    rw (n.bytes, n.places, n.lengths)
    (runs_printable {c = beside_in r.new.added} {table = columns_in r.new.table} r.result (rw c.requires.1 at r.ensures.run) long.long_places long.long_lengths l.pieces_size l.entries_size l.offsets_size)

pub returns : goal.returns
returns g c =
    let n = c.names.ensures in
    printed _ _ _ c.run_file-r.result (rw c.requires.1 at c.run_file-r.ensures.run) c.print_ran.result _ _ (rw (n.bytes, n.places, n.lengths) at c.print_ran.ensures)
